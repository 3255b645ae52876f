-- Which token a test of a reader has found.
use Rattle.std.proofs.Common.{◌≡◌, ℕ, true, Some, Option, arith}
use Rattle.parts.specs.declared.kinds.Comparator.{Comparator}
use Rattle.tokens.specs.Tokens.{Tok, is_stop, mark, comparator, connective, numeral, stop}
use Rattle.tokens.specs.declared.words.ConnectiveSign.{ConnectiveSign}
use Rattle.tokens.specs.declared.words.Punctuation.{Punctuation}
use Rattle.tokens.specs.declared.words.Sign.{Sign}
use Rattle.tokens.specs.declared.words.Sign.TheVariants.{Unsigned}
use Rattle.grammar.specs.Layers.{LeadText}
use Rattle.grammar.specs.Reading.{is_mark, signed_numeral, window_numeral, index_numeral, comparator_of, sign_at, sign_level}
use Rattle.grammar.specs.Trees.{skipping}

pub mark_is : (p : Punctuation) (t : Tok) → is_mark p t ≡ true → t ≡ mark p
mark_is p t e = grind arith

-- no other token is taken for the end of a text
pub stop_is : (t : Tok) → is_stop t ≡ true → t ≡ stop
stop_is t e = grind arith

pub signed_numeral_is : (t : Tok) (k : Sign × ℕ) → signed_numeral t ≡ Some k → t ≡ numeral k.0 k.1
signed_numeral_is t k e = grind arith

pub comparator_is : (t : Tok) (c : Comparator) → comparator_of t ≡ Some c → t ≡ comparator c
comparator_is t c e = grind arith

pub window_numeral_is : (o : Option (Sign × ℕ)) (a : ℕ) → window_numeral o ≡ Some a → o ≡ Some (Unsigned, a)
window_numeral_is o a e = grind arith

-- the index of X has no minus
pub index_numeral_is : (o : Option (Sign × ℕ)) (k : Sign × ℕ) → index_numeral o ≡ Some k → (o ≡ Some k) × LeadText (skipping k.0 k.1)
index_numeral_is o k e = grind arith

pub sign_is : (level : ℕ) (t : Tok) (x : ConnectiveSign) → sign_at level t ≡ Some x → (t ≡ connective x) × (sign_level x ≡ level)
sign_is level t x e = grind arith

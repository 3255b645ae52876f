-- What the reader of a text has at hand, and what a call leaves, told from what the grammar's reading answers. Assumes nothing.
use Rattle.std.specs.Prelude.{◌≡◌, ℕ, ◌+◌, false, cond, List, [], ◌∷◌, ◌++◌, length, take, drop, replicate, Ok, Err, OnOk, Result}
use Rattle.parts.specs.declared.kinds.Part.{Part}
use Rattle.tokens.specs.Lexing.{spots, spots_from}
use Rattle.tokens.specs.Told.{spot_of}
use Rattle.tokens.specs.Tokens.{Spot, is_stop}
use Rattle.tokens.specs.declared.lexer.Lexer.{Lexer}
use Rattle.tokens.specs.declared.token.Token.{Token}
use Rattle.grammar.specs.Reading as reading
use Rattle.grammar.specs.Reading.{Outcome, got, fault}
use Rattle.criteria.specs.Formulas.{blank}
use Rattle.criteria.specs.Refusals.{rule_number}
use Rattle.criteria.specs.declared.fault.Breach.{Breach}
use Rattle.criteria.specs.declared.reader.Reader.{Reader}
use Rattle.criteria.specs.declared.scope.Scope.{Scope}

-- the token at hand and those behind it
abbrev pub ahead : Token → Lexer → List Spot
ahead token lexer = spot_of token ∷ cond (is_stop (spot_of token).tok) [] (spots_from lexer.text.now lexer.at)

-- the parts brought and the tokens left, as the grammar's reading has them, and the parts written, with the places behind them
pub record View : Type 0 where
  -- what the text is read for
  pub scope : Scope
  pub brought : ℕ
  pub spots : List Spot
  pub parts : List Part
  pub behind : List Part

abbrev pub view : Reader → View
view r = record {
  scope = r.scope.now;
  brought = r.brought;
  spots = ahead r.token r.lexer;
  parts = take r.count r.parts;
  behind = drop r.count r.parts;
}

-- The token at hand is not the end. A fact of a moment and no type: it holds until the next token is taken.
abbrev pub AtToken : Reader → Type 0
AtToken r = is_stop (reading.first (view r).spots).tok ≡ false

-- so many parts brought, these tokens left, and these parts more
abbrev pub grown : View → List Part → ℕ → List Spot → View
grown v ps n s = record { scope = v.scope; brought = n; spots = s; parts = v.parts ++ ps; behind = drop (length ps) v.behind }

abbrev pub moved : View → ℕ → List Spot → View
moved v n s = record { scope = v.scope; brought = n; spots = s; parts = v.parts; behind = v.behind }

-- What a call does: it reads as the grammar's reading does, answers a value, and writes parts, the first at an index.
pub record Way (A B : Type 0) : Type 0 where
  pub read : reading.Reader A
  pub value : ℕ → A → B
  pub parts : ℕ → A → List Part

-- a call's answer with what the reader then has, where it is not refused
abbrev pub told : {B : Type 0} → Result B Breach → View → Result (B × View) (ℕ × ℕ)
told (Ok x) v = Ok (x, v)
told (Err b) v = Err (rule_number b.rule, b.place)

abbrev pub image : {A B : Type 0} → Way A B → View → Outcome A → Result (B × View) (ℕ × ℕ)
image way v (got a n s) = Ok (way.value (length v.parts) a, grown v (way.parts (length v.parts) a) n s)
image way v (fault number place s) = Err (number, place)

-- the call answered r and left w, where the reader had v
abbrev pub Follows : {A B : Type 0} → Way A B → View → Result B Breach → View → Type 0
Follows way v r w = told r w ≡ image way v (way.read v.brought v.spots)

-- as many parts are written as are brought
abbrev pub Balanced : Reader → Reader → Type 0
Balanced a b = b.count + a.brought ≡ b.brought + a.count

-- A call did what its way says: it answered and left that, and wrote as many parts as it brought. Where the answer is told for every tree or context, the two stand as two clauses, since the balance depends on none.
pub record Does {A B : Type 0} (way : Way A B) (a : Reader) (r : Result B Breach) (b : Reader) : Type 0 where
  pub answer : Follows way (view a) r (view b)
  pub balance : OnOk r (Balanced a b)

-- a text of which nothing is read yet
abbrev pub unread : Scope → List ℕ → View
unread scope text = record { scope = scope; brought = 0; spots = spots text; parts = []; behind = replicate 128 blank }

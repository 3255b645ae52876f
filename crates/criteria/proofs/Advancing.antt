-- The lexer's next token is the next of those ahead.
use Rattle.std.proofs.Common.{◌≡◌, ℕ, false, cond, List, [], ◌∷◌, sym, refl, ap, ◌∙◌}
use Rattle.tokens.specs.Lexing.{spot_at, end_at, spots, spots_from}
use Rattle.tokens.specs.Told.{spot_of}
use Rattle.tokens.specs.Tokens.{Spot, is_stop}
use Rattle.tokens.specs.declared.lexer.Lexer.{Lexer}
use Rattle.tokens.specs.declared.token.Token.{Token}
use Rattle.tokens.proofs.Spots.{spots_step}
use Rattle.grammar.specs.Reading.{rest}
use Rattle.criteria.specs.States.{ahead}

abbrev from : Spot → List ℕ → ℕ → List Spot
from spot text at = spot ∷ cond (is_stop spot.tok) [] (spots_from text at)

unless_stopped : (spot : Spot) (xs : List Spot) → is_stop spot.tok ≡ false → xs ≡ rest (spot ∷ cond (is_stop spot.tok) [] xs)
unless_stopped spot xs e = rw e refl

pub advanced : (t u : Token) (l m : Lexer) → is_stop (spot_of t).tok ≡ false → spot_of u ≡ spot_at l.text.now l.at → m.at ≡ end_at l.text.now l.at → m.text ≡ l.text → ahead u m ≡ rest (ahead t l)
advanced t u l m going found moved same =
    ap (λ (spot : Spot). from spot m.text.now m.at) found
    ∙ ap (λ (text : List ℕ). from (spot_at l.text.now l.at) text m.at) (ap (λ r. r.now) same)
    ∙ ap (λ (at : ℕ). from (spot_at l.text.now l.at) l.text.now at) moved
    ∙ sym (spots_step l.text.now l.at)
    ∙ unless_stopped (spot_of t) (spots_from l.text.now l.at) going

-- the first token and those behind it are all
pub begun : (text : List ℕ) (t : Token) (l : Lexer) → spot_of t ≡ spot_at text 0 → l.at ≡ end_at text 0 → l.text.now ≡ text → ahead t l ≡ spots text
begun text t l found moved same =
    ap (λ (spot : Spot). from spot l.text.now l.at) found
    ∙ ap (λ (bs : List ℕ). from (spot_at text 0) bs l.at) same
    ∙ ap (λ (at : ℕ). from (spot_at text 0) text at) moved
    ∙ sym (spots_step text 0)

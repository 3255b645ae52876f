-- The tokens of a text are those of its tree's steps, and none of them is the end of the text.
use Rattle.std.proofs.Common.{◌≡◌, ℕ, suc, Bool, false, List, [], ◌∷◌, ◌++◌, refl, ap, arith}
use mathlib.Core.List.{map-append}
use Rattle.parts.specs.declared.kinds.Quantity.{Quantity}
use Rattle.tokens.specs.Tokens.{Tok, is_stop}
use Rattle.grammar.specs.Derivations.{window_tokens, bracket_tokens}
use Rattle.grammar.specs.Laws.{IsToken}
use Rattle.grammar.specs.Layers.{MeasureText, a_numeral, a_variable, a_unary, a_binary, a_statistic, PropertyText, a_comparison, a_prefix, a_bracket, tighter, a_link, lead_tokens, link_tokens, change_tokens}
use Rattle.grammar.specs.Steps.{Rules, Step, lead_steps, link_steps, left_steps, measure_steps, property_steps}
use Rattle.grammar.specs.Trees.{MeasureTree, Lead, Link, PropertyTree}
use Rattle.grammar.proofs.Spelling.{step_tokens}

joined_tokens : {ts us : List Tok} (xs ys : List Step) → step_tokens xs ≡ ts → step_tokens ys ≡ us → step_tokens (xs ++ ys) ≡ ts ++ us
joined_tokens xs ys e f = grind (arith, map-append)

after_token : {ts us : List Tok} (t : Tok) → ts ≡ us → t ∷ ts ≡ t ∷ us
after_token t e = ap {B = List Tok} (λ ts. t ∷ ts) e

tokens_of_lead : (rules : Rules) (d : ℕ) (l : Lead) → step_tokens (lead_steps rules d l) ≡ lead_tokens l
tokens_of_lead rules d l = grind arith

tokens_of_link : (rules : Rules) (l : Link) → step_tokens (link_steps rules l) ≡ link_tokens l
tokens_of_link rules l = grind arith

measure_tokens : {inside : Bool} {ts : List Tok} {m : MeasureTree} (rules : Rules) (d : ℕ) → MeasureText inside ts m → step_tokens (measure_steps rules d m) ≡ ts
measure_tokens rules d a_numeral = refl
measure_tokens rules d a_variable = refl
measure_tokens rules d (a_unary {u} {m} t) = grind (arith, after_token, joined_tokens, measure_tokens rules (suc d) t)
measure_tokens rules d (a_binary {b} {m} {n} t u) = grind (arith, after_token, joined_tokens, measure_tokens rules (suc d) t, measure_tokens rules (suc d) u)
measure_tokens rules d (a_statistic {s} {a} {b} {m} t) = grind (arith, after_token, joined_tokens, measure_tokens rules (suc d) t)

left_tokens : {ts : List Tok} (rules : Rules) (d : ℕ) (q : Quantity) (m : MeasureTree) → MeasureText false ts m → step_tokens (left_steps rules d q m) ≡ change_tokens q ts
left_tokens rules d q m t = grind (arith, measure_tokens, after_token, joined_tokens)

pub property_tokens : {level : ℕ} {ts : List Tok} {p : PropertyTree} (rules : Rules) (d : ℕ) → PropertyText level ts p → step_tokens (property_steps rules d p) ≡ ts
property_tokens rules d (a_comparison {q} {c} {m} {n} t u) = grind (arith, joined_tokens, left_tokens, after_token, measure_tokens)
property_tokens rules d (a_prefix {l} {p} h t) = grind (arith, joined_tokens, tokens_of_lead, property_tokens rules (suc d) t)
property_tokens rules d (a_bracket {p} t) = grind (arith, after_token, joined_tokens, property_tokens rules (suc d) t)
property_tokens rules d (tighter t) = property_tokens rules d t
property_tokens rules d (a_link {l} {p} {q} e t u) = grind (arith, joined_tokens, tokens_of_link, property_tokens rules d t, property_tokens rules d u)

token_is : (t : Tok) → is_stop t ≡ false → IsToken t
token_is t f e = grind arith

-- tokens of which none is the end of the text
pub data Tokens : List Tok → Type 0 where
  none : Tokens []
  more : {t : Tok} {ts : List Tok} → IsToken t → Tokens ts → Tokens (t ∷ ts)

both : {ts us : List Tok} → Tokens ts → Tokens us → Tokens (ts ++ us)
both none k = k
both (more e h) k = more e (both h k)

bracketed : {ts : List Tok} → Tokens ts → Tokens (bracket_tokens ts)
bracketed h = grind (arith, more, token_is, both, none)

window_has_tokens : (a b : ℕ) → Tokens (window_tokens a b)
window_has_tokens a b = grind (arith, more, token_is, none)

lead_has_tokens : (l : Lead) → Tokens (lead_tokens l)
lead_has_tokens l = grind (arith, more, token_is, none, window_has_tokens)

link_has_tokens : (l : Link) → Tokens (link_tokens l)
link_has_tokens l = grind (arith, more, token_is, none, window_has_tokens)

measure_has_tokens : {inside : Bool} {ts : List Tok} {m : MeasureTree} → MeasureText inside ts m → Tokens ts
measure_has_tokens a_numeral = more (token_is _ refl) none
measure_has_tokens a_variable = more (token_is _ refl) none
measure_has_tokens (a_unary t) = more (token_is _ refl) (bracketed (measure_has_tokens t))
measure_has_tokens (a_binary t u) = grind (arith, more, token_is, bracketed, both, measure_has_tokens t, measure_has_tokens u)
measure_has_tokens (a_statistic {a} {b} t) = more (token_is _ refl) (bracketed (both (window_has_tokens a b) (measure_has_tokens t)))

left_has_tokens : {ts : List Tok} (q : Quantity) → Tokens ts → Tokens (change_tokens q ts)
left_has_tokens q h = grind (arith, more, token_is, bracketed)

pub property_has_tokens : {level : ℕ} {ts : List Tok} {p : PropertyTree} → PropertyText level ts p → Tokens ts
property_has_tokens (a_comparison {q} t u) = grind (arith, both, left_has_tokens, measure_has_tokens, more, token_is)
property_has_tokens (a_prefix {l} h t) = both (lead_has_tokens l) (property_has_tokens t)
property_has_tokens (a_bracket t) = bracketed (property_has_tokens t)
property_has_tokens (tighter t) = property_has_tokens t
property_has_tokens (a_link {l} e t u) = grind (arith, both, link_has_tokens, property_has_tokens t, property_has_tokens u)

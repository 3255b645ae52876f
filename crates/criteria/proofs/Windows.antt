-- The calls that read a window, one after the other, are the grammar's reading of it.
use Rattle.std.proofs.Common.{◌≡◌, ℕ, List, [], Some, None, Ok, Option, Result, sym, refl, ap, ◌∙◌, arith}
use Rattle.std.proofs.lemmas.Bool.{le-leb}
use Rattle.parts.specs.declared.kinds.Window.{Window}
use Rattle.tokens.specs.declared.words.Punctuation.TheVariants.{OpenWindow}
use Rattle.tokens.specs.Tokens.{Spot}
use Rattle.grammar.specs.Reading.{and_then, first, first_moment, last_moment, signed_numeral, window, window_behind, window_numeral}
use Rattle.criteria.specs.States.{View, Way, Follows}
use Rattle.criteria.specs.Ways.{common_rules, moment_way, punctuation_way, silent, window_behind_way, window_of, window_way}
use Rattle.criteria.specs.declared.fault.Breach.{Breach}
use Rattle.criteria.proofs.Passing.{both, goes, goes_on, passed, reads_as}

abbrev first_moment_way : Way ℕ ℕ
first_moment_way = silent (λ n s. first_moment common_rules (window_numeral (signed_numeral (first s).tok)) n s) (λ a. a)

-- every numeral is no less than 0
none_less : (o : Option ℕ) (n : ℕ) (s : List Spot) → last_moment common_rules 0 o n s ≡ first_moment common_rules o n s
none_less None n s = refl
none_less (Some a) n s = rw (le-leb 0 a (omega arith)) refl

pub from_0 : (u : View) (r : Result ℕ Breach) (x : View) → Follows (moment_way 0) u r x → Follows first_moment_way u r x
from_0 u r x h = reads_as (moment_way 0).read first_moment_way.read (λ at a. a) (λ at a. []) u r x (none_less (window_numeral (signed_numeral (first u.spots).tok)) u.brought u.spots) h

pub window_read : (v u x : View) (a : ℕ) (r : Result Window Breach) (w : View) → Follows (punctuation_way OpenWindow) v (Ok tt) u → Follows (moment_way 0) u (Ok a) x → Follows (window_behind_way a) x r w → Follows window_way v r w
window_read v u x a r w opened began behind =
    let p = passed (punctuation_way OpenWindow) v tt u opened in
    let q = passed first_moment_way u a x (from_0 u (Ok a) x began) in
    goes_on (window_behind common_rules a) (window common_rules) window_of x v r w (both v u x [] [] p.grew q.grew)
    (goes (λ _ n s. and_then (first_moment common_rules (window_numeral (signed_numeral (first s).tok)) n s) (window_behind common_rules)) p.reads
    ∙ goes (window_behind common_rules) q.reads
    ∙ ap (λ (b : ℕ). window_behind common_rules b x.brought x.spots) (sym q.value))
    behind

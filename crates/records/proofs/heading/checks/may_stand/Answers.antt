use Rattle.std.proofs.Common.{◌≡◌, ℕ, Bool, true, not, eqb, List, [], ◌∷◌, map, length, false, sym, ap, ◌∙◌, Bor}
use Rattle.std.proofs.lemmas.Bool.{false≢true}
use Rattle.records.specs.Headers.{among, lawful_name, may_stand}
use Rattle.records.proofs.NameSearch.{among_lent}
use Rattle.records.proofs.heading.checks.may_stand.Goals as goal

behind_some : (before : List (Bor (List ℕ))) (name : List ℕ) (stood : Bool) → false ≡ eqb (length before) 0 → true ≡ lawful_name name → stood ≡ among (map (λ n. n.now) before) name → not stood ≡ may_stand (map (λ n. n.now) before) name
behind_some [] name stood some lawful is = absurd (false≢true some)
behind_some (n ∷ ns) name stood some lawful is = rw (sym lawful) (ap not is)

pub returns-then-is_lawful_name : goal.returns-then-is_lawful_name
returns-then-is_lawful_name c =
    behind_some c.args.before.now c.args.name.now c.contains.result c.if-is_empty.ensures c.if-is_lawful_name.ensures (c.contains.ensures.value ∙ among_lent c.args.before.now c.args.name.now)

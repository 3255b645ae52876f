-- Measures over a window, F, G and U, told along a tour, are as their rules say over the visited states. Assumes nothing.
use Rattle.std.proofs.Common.{◌≡◌, ℕ, suc, Bool, cond, List, [], ◌∷◌, map, length, ℤ, Some, None, Option, sym, refl, ap, ◌∙◌, arith}
use mathlib.Core.List.{foldr}
use Rattle.std.specs.Option.{option_map}
use Rattle.parts.specs.declared.kinds.Statistic.{Statistic}
use Rattle.runs.specs.Runs.{State}
use Rattle.verdicts.proofs.VerdictOrder.{greater_assoc, lesser_assoc, lesser_comm, lesser_false, lesser_greater, lesser_true}
use Rattle.verdicts.proofs.VisitedStates.{over_visited}
use Rattle.verdicts.specs.Arithmetic.{of_many}
use Rattle.verdicts.specs.Laws.{WindowsByRule}
use Rattle.verdicts.specs.Rules.{all_known, below, greatest, least, statistic_rule, until_at}
use Rattle.verdicts.specs.Tables.{greater, lesser}
use Rattle.verdicts.specs.Verdicts.{always_step, both, collect, eventually_step, until_step}
use Rattle.verdicts.specs.declared.verdict.Verdict.{Verdict}
use Rattle.verdicts.specs.declared.verdict.Verdict.TheVariants.{False, Undecided}

collect_none : (m : List State → Option ℤ) (ts : List (List State)) → foldr (collect m) None ts ≡ None
collect_none m [] = refl
collect_none m (t ∷ ts) = ap (both ◌∷◌ (m t)) (collect_none m ts) ∙ both_none (m t)
  where
    both_none : (x : Option ℤ) → both ◌∷◌ x None ≡ None
    both_none None = refl
    both_none (Some x) = refl

collect_all : (m : List State → Option ℤ) (ts : List (List State)) → foldr (collect m) (Some []) ts ≡ all_known (map m ts)
collect_all m [] = refl
collect_all m (t ∷ ts) = ap (both ◌∷◌ (m t)) (collect_all m ts)

fold_statistic : (s : Statistic) (m : List State → Option ℤ) (told : Bool) (ts : List (List State)) → option_map (of_many s) (foldr (collect m) (cond told (Some []) None) ts) ≡ statistic_rule s m told ts
fold_statistic s m told ts = grind (arith, collect_all, collect_none)

module _ (p : List State → Verdict) where
  fold_eventually : (end : Verdict) (ts : List (List State)) → foldr (eventually_step p) end ts ≡ greater (greatest (map p ts)) end
  fold_eventually end [] = refl
  fold_eventually end (t ∷ ts) = grind (arith, greater_assoc, fold_eventually end ts)

  fold_always : (end : Verdict) (ts : List (List State)) → foldr (always_step p) end ts ≡ lesser (least (map p ts)) end
  fold_always end [] = refl
  fold_always end (t ∷ ts) = grind (arith, lesser_assoc, fold_always end ts)

-- a lesser with one verdict goes into a greatest, where each of the others takes it
greatest_lesser : (v : Verdict) (f g : ℕ → Verdict) → ((k : ℕ) → g (suc k) ≡ lesser v (f k)) → (ks : List ℕ) → greatest (map g (map suc ks)) ≡ lesser v (greatest (map f ks))
greatest_lesser v f g each [] = sym (lesser_false v)
greatest_lesser v f g each (k ∷ ks) = grind (arith, lesser_greater, greatest_lesser v f g each ks)

swap_lessers : (u v w : Verdict) → lesser u (lesser v w) ≡ lesser v (lesser u w)
swap_lessers u v w = grind (arith, lesser_assoc, lesser_comm)

module _ (p q : List State → Verdict) where
  abbrev untils : List (List State) → Verdict
  untils ts = greatest (map (until_at p q ts) (below (length ts)))

  untils_cons : (t : List State) (ts : List (List State)) → untils (t ∷ ts) ≡ greater (q t) (lesser (p t) (untils ts))
  untils_cons t ts = grind (arith, lesser_true, greatest_lesser, swap_lessers)

  -- what a visited state adds, from the verdicts after it: v of the untils, l the least of p, and the end
  step : (a b v l end : Verdict) → greater b (lesser a (greater v (lesser l end))) ≡ greater (greater b (lesser a v)) (lesser (lesser a l) end)
  step a b v l end = grind arith

  fold_until : (end : Verdict) (ts : List (List State)) → foldr (until_step p q) end ts ≡ greater (untils ts) (lesser (least (map p ts)) end)
  fold_until end [] = refl
  fold_until end (t ∷ ts) = grind (arith, step, untils_cons, fold_until end ts)

  end_until : (told : Bool) (l : Verdict) → lesser l (cond told False Undecided) ≡ cond told False (lesser Undecided l)
  end_until told l = grind arith

pub windows_by_rule : WindowsByRule
windows_by_rule mark w run s m p q = grind (arith, over_visited, fold_statistic, fold_eventually, fold_always, fold_until, end_until)

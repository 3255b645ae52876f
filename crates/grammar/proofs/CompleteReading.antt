-- Every text whose tree breaks no rule is read as that tree.
use Rattle.std.proofs.Common.{◌≡◌, ℕ, cond, List, [], sym, ap}
use Rattle.tokens.specs.Tokens.{Spot, is_stop}
use Rattle.grammar.specs.Laws.{toks, ended, steps, Reads}
use Rattle.grammar.specs.Layers.{loosest}
use Rattle.grammar.specs.Reading.{Outcome, got, and_then, refuse, first, reading}
use Rattle.grammar.specs.Steps.{Rules}
use Rattle.grammar.specs.Trees.{PropertyTree}
use Rattle.grammar.proofs.CompleteLevels.{gives_formula}
use Rattle.grammar.proofs.CompleteProperties.{ends_stop}
use Rattle.grammar.proofs.CompleteTokens.{given}
use Rattle.grammar.proofs.FirstBroken.{spelled}
use Rattle.grammar.proofs.TextTokens.{property_tokens}

pub complete_reading : (rules : Rules) (ts : List Spot) (end : ℕ) (p : PropertyTree) → Reads rules (toks ts) p → (n : ℕ) × (reading rules (ended ts end) ≡ got p n (ended [] end))
complete_reading rules ts end p h =
    let w = spelled ts (ended [] end) (steps rules p) 0 0 (sym (property_tokens rules 0 h.text)) h.kept in
    let g = gives_formula rules _ p 0 w.0 (ended ts end) (ended [] end) h.text (ends_stop loosest) w.1 in
    (w.0, ap (λ (o : Outcome PropertyTree). and_then o (λ p n s. cond (is_stop (first s).tok) (got p n s) (refuse 2 s))) (given g))

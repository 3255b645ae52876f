-- The number and the place of each refusal of a criterion. Assumes nothing.
use Rattle.std.specs.Prelude.{ℕ, cond, ◌==◌}
use Rattle.records.specs.Refusals.{refusal}
use Rattle.records.specs.declared.fault.Refusal.{Refusal}
use Rattle.criteria.specs.declared.fault.CriterionFault.{CriterionFault}
use Rattle.criteria.specs.declared.fault.CriterionFault.TheVariants.{Length, Magnitude, Header, Text}
use Rattle.criteria.specs.declared.fault.Rule.{Rule}
use Rattle.criteria.specs.declared.fault.Rule.TheVariants.{Grammar, Limit, Order, Column, Size, Bound}

abbrev pub rule_number : Rule → ℕ
rule_number Grammar = 2
rule_number Limit = 3
rule_number Order = 4
rule_number Column = 5
rule_number Size = 6
rule_number Bound = 7

-- the rule with a number
abbrev pub rule_with : ℕ → Rule
rule_with n = cond (n == 2) Grammar (cond (n == 3) Limit (cond (n == 4) Order (cond (n == 5) Column (cond (n == 6) Size Bound))))

-- a header's fault is placed in the run file, a rule's breach in the text
abbrev pub refusal_of : CriterionFault → Refusal
refusal_of Length = record { number = 1; place = 0 }
refusal_of Magnitude = record { number = 12; place = 0 }
refusal_of (Header f) = refusal f
refusal_of (Text b) = record { number = rule_number b.rule; place = b.place }

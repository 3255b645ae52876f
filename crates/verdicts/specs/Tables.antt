-- The three verdicts in their order, false below undecided below true, and the connectives on them. Assumes nothing.
use Rattle.std.specs.Prelude.{ℕ, Bool, cond}
use Rattle.verdicts.specs.declared.verdict.Verdict.{Verdict}
use Rattle.verdicts.specs.declared.verdict.Verdict.TheVariants.{False, True, Undecided}

abbrev pub rank : Verdict → ℕ
rank False = 0
rank Undecided = 1
rank True = 2

-- and
abbrev pub lesser : Verdict → Verdict → Verdict
lesser False w = False
lesser Undecided False = False
lesser Undecided True = Undecided
lesser Undecided Undecided = Undecided
lesser True w = w

-- or
abbrev pub greater : Verdict → Verdict → Verdict
greater False w = w
greater Undecided False = Undecided
greater Undecided True = True
greater Undecided Undecided = Undecided
greater True w = True

-- not
abbrev pub swap : Verdict → Verdict
swap False = True
swap True = False
swap Undecided = Undecided

abbrev pub implies : Verdict → Verdict → Verdict
implies v w = greater (swap v) w

abbrev pub iff : Verdict → Verdict → Verdict
iff v w = lesser (implies v w) (implies w v)

-- the verdict of what is known to hold or not to hold
abbrev pub decided : Bool → Verdict
decided holds = cond holds True False

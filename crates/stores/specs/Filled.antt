-- How cells are filled, what filled cells tell, and what a head and its cells mean. Assumes nothing.
use Rattle.std.specs.Prelude.{◌≡◌, ℕ, true, List, ◌++◌, length, take, drop, ℤ}
use Rattle.std.proofs.Common.{arith}
use Rattle.std.proofs.Math.Seq.{paste}
use Rattle.runs.specs.Feeding.{Priced}
use Rattle.runs.specs.Offers.{Offered}
use Rattle.runs.specs.Runs.{Meaning, Sound, State}
use Rattle.stores.specs.Cells.{are_lawful, head_meaning, need_of, needs_priced, states_lawful}
use Rattle.stores.specs.Coding.{Coding}
use Rattle.stores.specs.declared.head.Head.{Head}
use Rattle.stores.specs.declared.layout.Filled.{Filled}

-- the first of the cells filled, and behind them what was there before
abbrev pub over : List ℤ → List ℤ → List ℤ
over filled cells = filled ++ drop (length filled) cells

-- the states that filled cells tell, and the cells of one more, of which it needs so many
abbrev pub states_in : Coding → Filled → List State
states_in k f = k.states f.head.shape f.head.count f.cells.now

abbrev pub added_to : Coding → Filled → Offered → List ℤ
added_to k f = k.added f.head.shape (states_in k f)

abbrev pub needed_in : Coding → Filled → Offered → ℕ
needed_in k f = k.needs f.head.shape (states_in k f)

-- the cells that a head has filled, and the states that they tell
abbrev pub filled_by : Head → List ℤ → List ℤ
filled_by h cells = take h.used cells

abbrev pub states_by : Coding → Head → List ℤ → List State
states_by k h cells = k.states h.shape h.count (filled_by h cells)

abbrev pub meaning_by : Coding → Head → List ℤ → Meaning
meaning_by k h cells = head_meaning h (states_by k h cells)

-- an unlawful state needs no cell, any other those that it fills
abbrev pub need_after : Coding → Meaning → Offered → ℕ
need_after k m = need_of m.run.shape k.largest (k.needs m.run.shape m.run.states)

-- the cells with one state more
abbrev pub written_by : Coding → Head → List ℤ → Offered → List ℤ
written_by k h cells o = paste cells h.used (k.added h.shape (states_by k h cells) o) (k.needs h.shape (states_by k h cells) o)

pub meaning_sound : (k : Coding) (h : Head) (cells : List ℤ) → are_lawful h.shape k.largest (states_by k h cells) ≡ true → Sound k.largest (meaning_by k h cells)
meaning_sound k h cells lawful = record {
  width = h.width;
  longest = h.longest;
  few = rw k.counted h.few;
  lawful = states_lawful h.shape k.largest (states_by k h cells) lawful;
  leads = λ e. absurd (omega arith);
}

pub need_priced : (k : Coding) (m : Meaning) → Priced m.run.shape k.largest (need_after k m)
need_priced k m = needs_priced m.run.shape k.largest (k.needs m.run.shape m.run.states) (k.some m.run.shape m.run.states)

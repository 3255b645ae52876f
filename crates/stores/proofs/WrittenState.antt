-- What a store keeps once a state is written behind the filled cells. Assumes nothing.
use Rattle.std.proofs.Common.{◌≡◌, ℕ, ◌+◌, ◌≤◌, true, List, [], ◌∷◌, ◌++◌, length, take, drop, ℤ, None, sym, ap, ◌∙◌, arith}
use Rattle.std.proofs.lemmas.List.Edits.{length-paste, take-paste}
use Rattle.std.proofs.lemmas.List.{append_assoc, drop-drop, take_all}
use Rattle.runs.specs.Feeding.{state_of, unlawful}
use Rattle.runs.specs.Offers.{Offered}
use Rattle.stores.specs.Cells.{are_lawful}
use Rattle.stores.specs.Coding.{Coding}
use Rattle.stores.specs.Filled.{filled_by, over, states_by, written_by}
use Rattle.stores.specs.declared.head.Head.{Head}
use Rattle.stores.proofs.LawfulStates.{lawful_more, offered_lawful}

-- a lawful state is offered, which needs so many cells, and there is room for it
pub record Taken (k : Coding) (h : Head) (cells : List ℤ) (need : ℕ) (o : Offered) : Type 0 where
  pub lawful : unlawful h.shape k.largest o ≡ None
  pub needs : need ≡ k.needs h.shape (states_by k h cells) o
  pub within : h.used ≤ length cells
  pub room : h.used + need ≤ length cells

module _ {k : Coding} {h : Head} {cells : List ℤ} {need : ℕ} {o : Offered} (t : Taken k h cells need o) where
  long : length (k.added h.shape (states_by k h cells) o) ≡ need
  long = k.fits h.shape (states_by k h cells) o t.lawful ∙ sym t.needs

  pub cells_written : filled_by h cells ++ over (k.added h.shape (states_by k h cells) o) (drop h.used cells) ≡ written_by k h cells o
  cells_written =
      let added = k.added h.shape (states_by k h cells) o in
      let whole : take need added ≡ added = take_all need added (omega (arith, long)) in
      rw (sym t.needs, whole, long, drop-drop need h.used cells) (sym (append_assoc (filled_by h cells) added (drop (h.used + need) cells)))

  pub as_many : length (written_by k h cells o) ≡ length cells
  as_many = rw (sym t.needs) (length-paste cells h.used (k.added h.shape (states_by k h cells) o) need t.room (omega (arith, long)))

  pub filled_more : take (h.used + need) (written_by k h cells o) ≡ filled_by h cells ++ k.added h.shape (states_by k h cells) o
  filled_more =
      let added = k.added h.shape (states_by k h cells) o in
      rw (sym t.needs) (take-paste cells h.used added need t.within (omega (arith, long)) ∙ ap (λ cs. filled_by h cells ++ cs) (take_all need added (omega (arith, long))))

  -- the cells tell one state more
  module _ (tells : k.states h.shape (h.count + 1) (filled_by h cells ++ k.added h.shape (states_by k h cells) o) ≡ states_by k h cells ++ (state_of o ∷ [])) where
    pub lawful_written : are_lawful h.shape k.largest (states_by k h cells) ≡ true → are_lawful h.shape k.largest (k.states h.shape (h.count + 1) (take (h.used + need) (written_by k h cells o))) ≡ true
    lawful_written before = rw (filled_more, tells) (lawful_more h.shape k.largest (states_by k h cells) (state_of o) before (offered_lawful h.shape k.largest o t.lawful))

    pub filled_written : filled_by h cells ≡ k.cells h.shape (states_by k h cells) → take (h.used + need) (written_by k h cells o) ≡ k.cells h.shape (k.states h.shape (h.count + 1) (take (h.used + need) (written_by k h cells o)))
    filled_written before =
        rw (filled_more, tells) (ap (λ cs. cs ++ k.added h.shape (states_by k h cells) o) before ∙ sym (k.more h.shape (states_by k h cells) o t.lawful))

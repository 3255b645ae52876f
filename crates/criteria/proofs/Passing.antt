-- What a call's answer tells of the grammar's reading, and how calls one after the other make up a reading.
use Rattle.std.proofs.Common.{◌≡◌, ℕ, ◌+◌, List, [], ◌++◌, length, drop, Ok, Err, Result, sym, refl, ap, ◌∙◌, subst, arith}
use Rattle.std.proofs.lemmas.List.{append-nil, append_assoc, length-append, drop-drop}
use Rattle.parts.specs.declared.kinds.Part.{Part}
use Rattle.tokens.specs.Tokens.{Spot}
use Rattle.grammar.specs.Reading.{Outcome, Reader, got, fault, and_then}
use Rattle.criteria.specs.Refusals.{rule_number}
use Rattle.criteria.specs.States.{View, Way, image, Follows, grown, moved}
use Rattle.criteria.specs.Ways.{silent}
use Rattle.criteria.specs.declared.fault.Breach.{Breach}
use Rattle.criteria.specs.declared.scope.Scope.{Scope}

-- these parts are written behind those that were there
pub record Grown (v : View) (ps : List Part) (w : View) : Type 0 where
  pub scope : w.scope ≡ v.scope
  pub parts : w.parts ≡ v.parts ++ ps
  pub behind : w.behind ≡ drop (length ps) v.behind

pub both : (v w x : View) (ps qs : List Part) → Grown v ps w → Grown w qs x → Grown v (ps ++ qs) x
both v w x ps qs g h = record {
  scope = h.scope ∙ g.scope;
  parts = h.parts ∙ ap (λ (l : List Part). l ++ qs) g.parts ∙ append_assoc v.parts ps qs;
  behind =
      h.behind
      ∙ ap (λ (l : List Part). drop (length qs) l) g.behind
      ∙ drop-drop (length qs) (length ps) v.behind
      ∙ ap (λ (k : ℕ). drop k v.behind) (sym (length-append ps qs));
}

pub longer : (v w : View) (ps : List Part) → Grown v ps w → length w.parts ≡ length v.parts + length ps
longer v w ps g = ap (λ (l : List Part). length l) g.parts ∙ length-append v.parts ps

pub unmoved : (v w : View) (n : ℕ) (s : List Spot) → w ≡ moved v n s → Grown v [] w
unmoved v w n s e = record { scope = ap (λ (u : View). u.scope) e; parts = ap (λ (u : View). u.parts) e ∙ sym (append-nil v.parts); behind = ap (λ (u : View). u.behind) e }

pub wrote : (v w : View) (ps : List Part) (n : ℕ) (s : List Spot) → w ≡ grown v ps n s → Grown v ps w
wrote v w ps n s e = record { scope = ap (λ (u : View). u.scope) e; parts = ap (λ (u : View). u.parts) e; behind = ap (λ (u : View). u.behind) e }

-- a call that was not refused: what the reading got, and what that makes of the answer and the state
pub record Passed {A B : Type 0} (way : Way A B) (v : View) (x : B) (w : View) : Type 0 where
  pub found : A
  pub reads : way.read v.brought v.spots ≡ got found w.brought w.spots
  pub value : x ≡ way.value (length v.parts) found
  pub grew : Grown v (way.parts (length v.parts) found) w

-- what stands in an answer that is not refused, and what in one that is
answered : {B : Type 0} → B × View → Result (B × View) (ℕ × ℕ) → B × View
answered other (Ok p) = p
answered other (Err q) = other

refused : {B : Type 0} → ℕ × ℕ → Result (B × View) (ℕ × ℕ) → ℕ × ℕ
refused other (Ok p) = other
refused other (Err q) = q

is_answer : {B : Type 0} → Result (B × View) (ℕ × ℕ) → ℕ
is_answer (Ok p) = 0
is_answer (Err q) = 1

passed_by : {A B : Type 0} (way : Way A B) (v : View) (x : B) (w : View) (o : Outcome A) → way.read v.brought v.spots ≡ o → Ok (x, w) ≡ image way v o → Passed way v x w
unfolding answered is_answer
passed_by way v x w (got a n s) read e =
    let both = ap (answered (x, w)) e in
    let state : w ≡ grown v (way.parts (length v.parts) a) n s = ap (λ (p : _ × View). p.1) both in
    record {
      found = a;
      reads = read ∙ ap (λ (u : View). got a u.brought u.spots) (sym state);
      value = ap (λ (p : _ × View). p.0) both;
      grew = wrote v w (way.parts (length v.parts) a) n s state;
    }
passed_by way v x w (fault number place s) read e = absurd (omega (arith, ap is_answer e))

pub passed : {A B : Type 0} (way : Way A B) (v : View) (x : B) (w : View) → Follows way v (Ok x) w → Passed way v x w
passed way v x w e = passed_by way v x w (way.read v.brought v.spots) refl e

-- a call that was refused
pub record Stopped {A B : Type 0} (way : Way A B) (v : View) (b : Breach) : Type 0 where
  pub left : List Spot
  pub reads : way.read v.brought v.spots ≡ fault (rule_number b.rule) b.place left

stopped_by : {A B : Type 0} (way : Way A B) (v : View) (b : Breach) (o : Outcome A) → way.read v.brought v.spots ≡ o → ◌≡◌ {A = Result (B × View) (ℕ × ℕ)} (Err (rule_number b.rule, b.place)) (image way v o) → Stopped way v b
unfolding refused is_answer
stopped_by way v b (got a n s) read e = absurd (omega (arith, ap is_answer e))
stopped_by way v b (fault number place s) read e = record { left = s; reads = read ∙ ap (λ (q : ℕ × ℕ). fault q.0 q.1 s) (sym (ap (refused (number, place)) e)) }

pub stopped : {A B : Type 0} (way : Way A B) (v : View) (b : Breach) (w : View) → Follows way v (Err b) w → Stopped way v b
stopped way v b w e = stopped_by way v b (way.read v.brought v.spots) refl e

pub grew : (v w : View) (ps : List Part) → Grown v ps w → w ≡ grown v ps w.brought w.spots
grew v w ps g =
    ap (λ (scope : Scope). record { scope = scope; brought = w.brought; spots = w.spots; parts = w.parts; behind = w.behind }) g.scope
    ∙ ap (λ (qs : List Part). record { scope = v.scope; brought = w.brought; spots = w.spots; parts = qs; behind = w.behind }) g.parts
    ∙ ap (λ (qs : List Part). record { scope = v.scope; brought = w.brought; spots = w.spots; parts = v.parts ++ ps; behind = qs }) g.behind

-- and back
pub follows : {A B : Type 0} (way : Way A B) (v : View) (x : B) (w : View) → Passed way v x w → Follows way v (Ok x) w
follows way v x w p =
    ap (λ (y : _). Ok (y, w)) p.value
    ∙ ap (λ (u : View). Ok (way.value (length v.parts) p.found, u))
    (grew v w (way.parts (length v.parts) p.found) p.grew)
    ∙ ap (image way v) (sym p.reads)

pub refuses : {A B : Type 0} (way : Way A B) (v : View) (b : Breach) (w : View) → Stopped way v b → Follows way v (Err b) w
refuses way v b w p = ap (image way v) (sym p.reads)

-- what is read first decides how the reading goes on
pub goes : {A C : Type 0} {o : Outcome A} {a : A} {n : ℕ} {s : List Spot} (f : A → Reader C) → o ≡ got a n s → and_then o f ≡ f a n s
goes f e = ap (λ (o : _). and_then o f) e

pub halts : {A C : Type 0} {o : Outcome A} {number place : ℕ} {s : List Spot} (f : A → Reader C) → o ≡ fault number place s → and_then o f ≡ fault number place s
halts f e = ap (λ (o : _). and_then o f) e

-- a call that was refused, within a reading that begins with others
pub breaks : {A B C D : Type 0} (way : Way A B) (whole : Way C D) (v u : View) (b : Breach) (w x : View) (f : A → Reader C) → whole.read v.brought v.spots ≡ and_then (way.read u.brought u.spots) f → Follows way u (Err b) w → Follows whole v (Err b) x
breaks way whole v u b w x f e h =
    let p = stopped way u b w h in
    refuses whole v b x (record { left = p.left; reads = e ∙ halts f p.reads })

-- two readings that answer the same
same_image : {A B : Type 0} (f g : Reader A) (value : ℕ → A → B) (parts : ℕ → A → List Part) (v : View) (o : Outcome A) → image (record { read = f; value = value; parts = parts }) v o ≡ image (record { read = g; value = value; parts = parts }) v o
same_image f g value parts v (got a n s) = refl
same_image f g value parts v (fault number place s) = refl

pub reads_as : {A B : Type 0} (f g : Reader A) (value : ℕ → A → B) (parts : ℕ → A → List Part) (v : View) (r : Result B Breach) (w : View) → f v.brought v.spots ≡ g v.brought v.spots → Follows (record { read = f; value = value; parts = parts }) v r w → Follows (record { read = g; value = value; parts = parts }) v r w
reads_as f g value parts v r w e h = h ∙ ap (λ (o : Outcome _). image (record { read = f; value = value; parts = parts }) v o) e ∙ same_image f g value parts v (g v.brought v.spots)

-- a silent call goes on after others that wrote nothing
silent_image : {A B : Type 0} (f g : Reader A) (value : A → B) (u v : View) (o : Outcome A) → Grown v [] u → image (silent f value) u o ≡ image (silent g value) v o
silent_image f g value u v (got a n s) h =
    ap (λ (scope : Scope). Ok (value a, record { scope = scope; brought = n; spots = s; parts = u.parts ++ []; behind = u.behind })) h.scope
    ∙ ap (λ (ps : List Part). Ok (value a, record { scope = v.scope; brought = n; spots = s; parts = ps ++ []; behind = u.behind })) (h.parts ∙ append-nil v.parts)
    ∙ ap (λ (ps : List Part). Ok (value a, record { scope = v.scope; brought = n; spots = s; parts = v.parts ++ []; behind = ps })) h.behind
silent_image f g value u v (fault number place s) h = refl

pub goes_on : {A B : Type 0} (f g : Reader A) (value : A → B) (u v : View) (r : Result B Breach) (w : View) → Grown v [] u → g v.brought v.spots ≡ f u.brought u.spots → Follows (silent f value) u r w → Follows (silent g value) v r w
goes_on f g value u v r w h e k = k ∙ silent_image f g value u v (f u.brought u.spots) h ∙ ap (λ (o : Outcome _). image (silent g value) v o) (sym e)

-- a call that goes on in the same scope
pub scoped : {A B : Type 0} {s t : Scope} (way : Scope → Way A B) (u : View) (r : Result B Breach) (w : View) → t ≡ s → Follows (way t) u r w → Follows (way s) u r w
scoped way u r w e h = subst (λ (s : Scope). Follows (way s) u r w) e h

-- where a reading of two got something, so did the second
pub then_got : {A C : Type 0} (o : Outcome A) (f : A → Reader C) (c : C) (k : ℕ) (u : List Spot) → and_then o f ≡ got c k u → (a : A) × (n : ℕ) × (t : List Spot) × (f a n t ≡ got c k u)
then_got (got a n t) f c k u e = (a, n, t, e)
then_got (fault number place s) f c k u e = let z : ◌≡◌ {A = ℕ} 0 1 = cc in absurd (omega arith)

pub same_got : {A : Type 0} (a b : A) (n k : ℕ) (s u : List Spot) → got a n s ≡ got b k u → b ≡ a
same_got a b n k s u e = cc

-- The grammar of RFC 4180, rule by rule, between bytes and the fields that they stand for. A header is a record like any other here.
-- Assumes nothing.
use Rattle.std.specs.Prelude.{◌≡◌, ℕ, true, List, [], ◌∷◌, ◌++◌}
use Rattle.std.specs.List.{AllByRecursion}
use Rattle.records.specs.Bytes.{comma, quote, cr, lf, text_data}

-- TEXTDATA = %x20-21 / %x23-2B / %x2D-7E
abbrev pub TextData : ℕ → Type 0
TextData b = text_data b ≡ true

-- non-escaped = *TEXTDATA
abbrev pub NonEscaped : List ℕ → Type 0
NonEscaped bs = AllByRecursion TextData bs

-- *(TEXTDATA / COMMA / CR / LF / 2DQUOTE), and the text that it stands for
pub data Quoted : List ℕ → List ℕ → Type 0 where
  none : Quoted [] []
  text : {b : ℕ} {bs ds : List ℕ} → TextData b → Quoted bs ds → Quoted (b ∷ bs) (b ∷ ds)
  comma_in : {bs ds : List ℕ} → Quoted bs ds → Quoted (comma ∷ bs) (comma ∷ ds)
  cr_in : {bs ds : List ℕ} → Quoted bs ds → Quoted (cr ∷ bs) (cr ∷ ds)
  lf_in : {bs ds : List ℕ} → Quoted bs ds → Quoted (lf ∷ bs) (lf ∷ ds)
  two_quotes : {bs ds : List ℕ} → Quoted bs ds → Quoted (quote ∷ quote ∷ bs) (quote ∷ ds)

-- field = (escaped / non-escaped), escaped = DQUOTE *(..) DQUOTE
pub data Field : List ℕ → List ℕ → Type 0 where
  escaped : {bs ds : List ℕ} → Quoted bs ds → Field (quote ∷ (bs ++ (quote ∷ []))) ds
  non_escaped : {bs : List ℕ} → NonEscaped bs → Field bs bs

-- record = field *(COMMA field)
pub data Record : List ℕ → List (List ℕ) → Type 0 where
  last_field : {bs ds : List ℕ} → Field bs ds → Record bs (ds ∷ [])
  then_field : {bs ds cs : List ℕ} {fs : List (List ℕ)} → Field bs ds → Record cs fs → Record (bs ++ (comma ∷ cs)) (ds ∷ fs)

-- file = record *(CRLF record) [CRLF], where a CRLF at the very end ends the file and begins no record
pub data File : List ℕ → List (List (List ℕ)) → Type 0 where
  last_record : {bs : List ℕ} {fs : List (List ℕ)} → Record bs fs → File bs (fs ∷ [])
  last_line : {bs : List ℕ} {fs : List (List ℕ)} → Record bs fs → File (bs ++ (cr ∷ lf ∷ [])) (fs ∷ [])
  then_record : {bs cs : List ℕ} {c : ℕ} {fs : List (List ℕ)} {rs : List (List (List ℕ))} → Record bs fs → File (c ∷ cs) rs → File (bs ++ (cr ∷ lf ∷ c ∷ cs)) (fs ∷ rs)

-- The fields of a header, gathered one after the other. Assumes nothing.
use Rattle.std.proofs.Common.{◌≡◌, ℕ, ◌+◌, List, [], ◌∷◌, ◌++◌, take, sym, ap, ◌∙◌, Bor}
use Rattle.std.proofs.lemmas.List.{map_push, take-map}
use Rattle.records.specs.Cursor.{Seen}
use Rattle.records.specs.Firsts.{Firsts, kept_fields, with_one}
use Rattle.records.specs.Headers.{titles_of}
use Rattle.records.specs.Told.{lent, seen_field}
use Rattle.records.specs.declared.fault.Position.{Position}
use Rattle.records.specs.declared.fields.Field.{Field}
use Rattle.records.proofs.FirstFields.{firsts_push}

-- one field more, by the bytes that it lends
lent_one : (f : Firsts (Bor (List ℕ))) (text : Bor (List ℕ)) (place : Position) → lent (with_one f text place) ≡ with_one (lent f) text.now place
lent_one f text place =
    let values = sym (take-map (λ x. x.now) kept_fields (f.values ++ (text ∷ []))) ∙ ap (take kept_fields) (map_push (λ x. x.now) f.values text) in
    λ i. record { at = f.at; count = f.count + 1; values = values i; places = take kept_fields (f.places ++ (place ∷ [])) }

pub title_push : (f : Firsts (Bor (List ℕ))) (field : Field) (at : Position) (ss : List Seen) → lent f ≡ titles_of at ss → lent (with_one f field.text field.at) ≡ titles_of at (ss ++ (seen_field field ∷ []))
title_push f field at ss held =
    lent_one f field.text field.at ∙ ap (λ g. with_one g field.text.now field.at) held ∙ firsts_push (λ s. s.text) (λ s. s.at) at ss (seen_field field)

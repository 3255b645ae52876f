-- The word is that of the table's first entry with this name.
use Rattle.std.proofs.Common.{◌≡◌, ap, refl, ◌∙◌, Bool, true, false, cond, Bor, List, [], ◌∷◌, Some, None, Option, rules, tests, ℕ}
use Rattle.std.specs.Option.{MatchOption, option_map, option_map_or}
use Rattle.std.specs.List.{find}
use Rattle.std.specs.Str.{bytes_eq}
use Rattle.std.proofs.lemmas.Iterator.{YieldsList-from_slice}
use Rattle.std.proofs.lemmas.Iterator.Search.{find_from_yields_List}
use Rattle.tokens.specs.Tokens.{Tok, stray}
use Rattle.tokens.specs.Told.{tok_of}
use Rattle.tokens.specs.declared.words.Word.{Word}
use Rattle.tokens.specs.declared.words.Word.TheVariants.{Stray}
use Rattle.tokens.proofs.naming.measure_named.Goals as goal

abbrev Entry : Type 0
Entry = Bor (List ℕ) × Word

abbrev meaning : Option Entry → Tok
meaning o = option_map_or (λ e. tok_of e.1) o stray

-- the meaning of a table's first entry with this name
abbrev first : List ℕ → List Entry → Tok
first name [] = stray
first name (e ∷ es) = cond (bytes_eq name e.0.now) (tok_of e.1) (first name es)

found_by : (b : Bool) (e : Entry) (o : Option Entry) (rest : Tok) → meaning o ≡ rest → meaning (cond b (Some e) o) ≡ cond b (tok_of e.1) rest
found_by true e o rest h = refl
found_by false e o rest h = h

found_first : (name : List ℕ) (es : List Entry) → meaning (find (λ e. bytes_eq name e.0.now) es) ≡ first name es
found_first name [] = refl
found_first name (e ∷ es) = found_by (bytes_eq name e.0.now) e _ _ (found_first name es)

found_word : (o : Option (Bor Entry)) (w : Word) → MatchOption o (w ≡ Stray) (λ e. w ≡ e.now.1) → tok_of w ≡ meaning (option_map (λ e. e.now) o)
found_word None w h = ap tok_of h
found_word (Some e) w h = ap tok_of h

pub returns : goal.returns
returns c =
    let name = c.args.name.now in
    let table = c.iter.result.rest.now in
    let found = find_from_yields_List (λ (e : Entry). bytes_eq name e.0.now) _ _ c.find.result c.find.ensures.ran (YieldsList-from_slice table cc) (λ x b q k. search (rules, tests)) in
    found_word c.find.result c.map_or.result (search rules) ∙ ap meaning found ∙ found_first name table ∙ ap (first name) c.iter.ensures.rest

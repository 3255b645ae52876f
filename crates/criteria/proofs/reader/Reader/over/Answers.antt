use Rattle.std.proofs.Common.{ℕ, List, [], replicate, ap, ◌∙◌}
use Rattle.tokens.specs.Lexing.{end_at, spot_at}
use Rattle.tokens.specs.Tokens.{Spot}
use Rattle.criteria.specs.Formulas.{blank}
use Rattle.criteria.proofs.Advancing.{begun}
use Rattle.criteria.proofs.reader.Reader.over.Goals as goal

pub returns : goal.returns
returns c =
    let text = c.args.text.now in
    let lexer = c.over-lexer.result in
    let kept = ap (λ r. r.now) c.over-lexer.ensures.text in
    let here = c.over-lexer.ensures.place in
    let found = c.next_token-token.ensures.answer ∙ ap (λ (bs : List ℕ). spot_at bs lexer.at) kept ∙ ap (spot_at text) here in
    let moved = c.next_token-token.ensures.after ∙ ap (λ (bs : List ℕ). end_at bs lexer.at) kept ∙ ap (end_at text) here in
    let same = ap (λ r. r.now) c.next_token-token.ensures.text ∙ kept in
    ap (λ (s : List Spot). record { scope = c.args.scope.now; brought = 0; spots = s; parts = []; behind = replicate 128 blank })
    (begun text c.next_token-token.result c.next_token-token.new.self found moved same)

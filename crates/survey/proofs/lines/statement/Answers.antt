use Rattle.std.proofs.Common.{◌≡◌, length, IfOk, vec_items, subst, rules}
use Rattle.survey.specs.Statements.{statement_by}
use Rattle.survey.specs.Surveys.{survey_of}
use Rattle.survey.proofs.lines.statement.Goals as goal

pub returns : goal.returns
returns c =
    let long : length c.as_mut_slice.result.now ≡ 16384 = search rules in
    subst (λ n. IfOk c.statement_in.result (λ v. vec_items v ≡ statement_by (survey_of n c.args.bytes.now))) long c.statement_in.ensures

use Rattle.std.proofs.Common.{ℕ, [], ◌∷◌, is_some, Option, unwrap_or, sym, refl, ap, ◌∙◌, rules}
use Rattle.parts.specs.declared.kinds.Part.TheVariants as part
use Rattle.grammar.specs.Trees as tree
use Rattle.criteria.specs.States.{view}
use Rattle.criteria.proofs.Measures.{leaf_read}
use Rattle.criteria.proofs.Writing.{counted}
use Rattle.criteria.proofs.reader.Reader.variable.Goals as goal

pub returns : goal.returns
returns c =
    let named = c.in-Some.ensures in
    record {
      answer =
          leaf_read c.args.self.now.scope.now _ 5 (tree.variable c.args.name.now) (part.Variable c.in-Some.column) (view c.args.self.now) (view c.bring.new.self) (view c.advance.new.self) (view c.write-at.new.self) c.write-at.result c.args.self.now.scope.now.magnitude
          (ap (λ (o : Option ℕ). is_some o) (sym named)) c.in_ok-bring.ensures.answer c.advance.ensures.after c.write-at.ensures.after
          (c.write-at.ensures.answer ∙ sym (counted c.advance.new.self))
          refl
          (λ _. ap (λ (o : Option ℕ). part.Variable (unwrap_or o 0) ∷ []) (sym named));
      balance = search rules;
    }

use Rattle.std.proofs.Common.{[], ◌∷◌, ℤ, sym, ap, ◌∙◌, arith, w64, to_z, of_z, rules}
use Rattle.std.proofs.lemmas.Int.{to_z-of_z}
use Rattle.std.proofs.lemmas.Bool.{le-leb}
use Rattle.parts.specs.Limits.{most_numeral}
use Rattle.parts.specs.declared.kinds.Part.TheVariants as part
use Rattle.grammar.specs.Trees as tree
use Rattle.criteria.specs.States.{view}
use Rattle.criteria.proofs.Measures.{leaf_read, numeral_bound}
use Rattle.criteria.proofs.Writing.{counted}
use Rattle.criteria.proofs.reader.Reader.numeral.Goals as goal

pub returns : goal.returns
returns c =
    let n = c.args.magnitude in
    let sign = c.args.sign in
    record {
      answer =
          leaf_read c.args.self.now.scope.now _ 3 (tree.numeral sign n) (part.Numeral (to_z w64 (of_z w64 c.signed.result))) (view c.args.self.now) (view c.bring.new.self) (view c.advance.new.self) (view c.write-at.new.self) c.write-at.result n
          (le-leb n most_numeral (omega arith)) c.in_ok-bring.ensures.answer c.advance.ensures.after c.write-at.ensures.after
          (c.write-at.ensures.answer ∙ sym (counted c.advance.new.self))
          (numeral_bound sign n)
          (λ _. ap (λ (z : ℤ). part.Numeral z ∷ []) (sym (to_z-of_z w64 c.signed.result (record { sfits = c.signed.type_inv }) ∙ c.signed.ensures)));
      balance = search rules;
    }

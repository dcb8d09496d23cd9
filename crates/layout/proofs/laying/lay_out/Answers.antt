use Rattle.std.proofs.Common.{◌≡◌, true, length, sym, ◌∙◌, subst, arith}
use Rattle.std.proofs.lemmas.Bool.{cond-true}
use Rattle.layout.specs.Laid.{fits, laid_out, Laid}
use Rattle.layout.proofs.LaidOut.{Fit, fit, written, laid}
use Rattle.layout.proofs.laying.lay_out.Goals as goal

pub returns : goal.returns
returns c =
    let h : fits c.args.objects c.args.records (length c.args.bytes.now) (length c.args.numbers.now) ≡ true = sym c.if-not-suits.ensures in
    let f : Fit c.args.objects c.args.records (length c.args.bytes.now) (length c.args.numbers.now) = fit _ _ _ _ h in
    let e : c.spare.new.bytes ≡ laid_out c.args.objects c.args.records c.args.numbers.now =
    written _ _ _ _ _ _ _ f c.clear.ensures c.number.ensures c.spare.ensures in
    record {
      answer = sym h;
      bytes = e ∙ sym (cond-true _ _ _ h);
      laid = λ _.
          subst (Laid c.args.objects c.args.records c.args.numbers.now) (sym e)
          (laid _ _ _ (subst (λ k. Fit c.args.objects c.args.records k (length c.args.numbers.now)) f.sized.long f) (λ i. omega (arith, c.type_inv.numbers i)));
    }

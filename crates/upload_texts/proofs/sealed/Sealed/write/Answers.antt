use Rattle.std.proofs.Common.{◌≡◌, ℕ, List, Some, sym, subst, ◌∙◌}
use Rattle.upload_texts.specs.Sealed.{read_sealed}
use Rattle.upload_texts.proofs.Answering.{sealed_round, sealed_written}
use Rattle.upload_texts.proofs.sealed.Sealed.write.Goals as goal

pub returns-clause-text : goal.returns-clause-text
returns-clause-text c =
    let out = c.in_ok-to_vec.ensures in
    c.from_vec.ensures ∙ sealed_written c.args.self.now _ _ c.in_ok-value.ensures (record { spelled = out.text; utf8 = out.utf8; reads = out.reads_back })

pub returns-clause-reads_back : goal.returns-clause-reads_back
returns-clause-reads_back c =
    let out = c.in_ok-to_vec.ensures in
    subst (λ (text : List ℕ). read_sealed text ≡ Some c.args.self.now) (sym c.from_vec.ensures)
    (sealed_round c.args.self.now _ _ c.requires c.in_ok-value.ensures (record { spelled = out.text; utf8 = out.utf8; reads = out.reads_back }))

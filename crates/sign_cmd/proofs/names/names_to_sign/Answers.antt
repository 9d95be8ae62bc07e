use Rattle.std.proofs.Common.{List, ℕ, subst, sym, ◌∙◌, []}
use Rattle.sign_cmd.specs.Names.{AreSigned}
use Rattle.sign_cmd.proofs.NamesLemmas.{no_headers, signed_more, signed_same}
use Rattle.sign_cmd.proofs.names.names_to_sign.Goals.{then-is_signed+in_ok-add_name_to_sign, else-is_signed}
use Rattle.sign_cmd.proofs.names.names_to_sign.Goals as goal

pub loop-header-init : goal.loop-header-init
loop-header-init c = subst (λ (l : List (List ℕ)). AreSigned [] l) (sym c.new-names.ensures) no_headers

pub loop-header-preserved : goal.loop-header-preserved
loop-header-preserved c =
    let test = rw c.as_slice.ensures at c.is_signed.ensures in
    elim c.if-is_signed.branch [
      | then-is_signed+in_ok-add_name_to_sign w ↦
          let adds = rw w.as_slice-then-is_signed.ensures at w.in_ok-add_name_to_sign.ensures in
          rw w.names-is (signed_more c.args.headers.now c.loop-header.header-index c.header-item.result c.loop-header.names w.add_name_to_sign.new.names c.loop-header-test.true c.header-item.is (sym test ∙ w.if-is_signed.true) c.loop-header.invariant adds)
      | else-is_signed w ↦
          rw w.names-is (signed_same c.args.headers.now c.loop-header.header-index c.header-item.result c.loop-header.names c.loop-header-test.true c.header-item.is (sym test ∙ w.if-is_signed.false) c.loop-header.invariant)
    ]

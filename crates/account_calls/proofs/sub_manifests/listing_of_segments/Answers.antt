use Rattle.std.proofs.Common.{◌≡◌, arith, ap, sym, subst, ◌∙◌, length}
use Rattle.std.specs.Prelude.{IfOk}
use Rattle.s3_names.specs.Id.{id_digits}
use Rattle.upload_records.specs.Native.{sub_manifests, sub_segments}
use Rattle.upload_records.proofs.lemmas.Subs.{listing_direct}
use Rattle.account_calls.proofs.SubLists.{listing_subs}
use Rattle.account_calls.proofs.sub_manifests.listing_of_segments.Goals as goal

pub returns-then-len-le-MOST_SEGMENTS : goal.returns-then-len-le-MOST_SEGMENTS
returns-then-len-le-MOST_SEGMENTS c =
    sym (listing_direct c.args.folder.now (id_digits c.args.id) c.args.segments (omega (arith, c.len.ensures, c.if-len-le-MOST_SEGMENTS.true)))

pub returns : goal.returns
returns c =
    subst (λ l. IfOk c.sub_manifest_segments.result (λ listed. listed ≡ l))
    (ap (λ l. sub_segments c.args.folder.now (id_digits c.args.id) l (sub_manifests (length l))) c.as_slice.ensures
    ∙ sym (listing_subs c.args.folder.now (id_digits c.args.id) c.args.segments (omega (arith, c.len.ensures, c.if-len-le-MOST_SEGMENTS.false))))
    c.sub_manifest_segments.ensures

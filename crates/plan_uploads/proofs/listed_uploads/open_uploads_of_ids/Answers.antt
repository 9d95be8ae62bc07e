use Rattle.std.proofs.Common.{◌∙◌, get_or, refl, arith}
use Rattle.plan_uploads.proofs.UploadRows.{gathered_all, gathered_fault, gathered_more, gathered_none, shown_none}
use Rattle.plan_uploads.proofs.listed_uploads.open_uploads_of_ids.Goals as goal

pub loop-id-init : goal.loop-id-init
loop-id-init g c = record {
  stays = record { store = refl; settings = refl };
  dated = shown_none c.new-rows.result c.new-rows.ensures;
  so = gathered_none _ c.args.asked.now c.args.bucket.now c.args.ids.now c.new-rows.result c.new-rows.ensures;
}

pub returns-in_err-add_upload-clause-asks : goal.returns-in_err-add_upload-clause-asks
returns-in_err-add_upload-clause-asks g c = gathered_fault c.loop-id.invariant.so (get_or c.args.ids.now c.loop-id.id-index 0) c.loop-id-test.true refl c.in_err-add_upload.ensures.asks _ c.from_residual.ensures.1

pub loop-id-preserved : goal.loop-id-preserved
loop-id-preserved g c = record {
  stays = record {
    store = c.add_upload.ensures.stays.store ∙ c.loop-id.invariant.stays.store;
    settings = c.add_upload.ensures.stays.settings ∙ c.loop-id.invariant.stays.settings;
  };
  dated = c.in_ok-add_upload.ensures.dated c.loop-id.invariant.dated;
  so = gathered_more c.loop-id.invariant.so (get_or c.args.ids.now c.loop-id.id-index 0) c.loop-id-test.true refl c.in_ok-add_upload.ensures.asks;
}

pub returns-clause-asks : goal.returns-clause-asks
returns-clause-asks g c = gathered_all c.loop-id.invariant.so c.loop-id.auto.id-index-end (omega (arith, c.loop-id-test.false))

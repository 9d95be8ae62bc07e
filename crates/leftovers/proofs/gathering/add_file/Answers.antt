use Rattle.std.proofs.Common.{sym, ap, subst, ◌∙◌, arith}
use Rattle.swift_calls.specs.Step.{IsContainerName}
use Rattle.account_calls.proofs.lemmas.Quiet.{asks_under}
use Rattle.account_calls.proofs.lemmas.SideNames.{uploads_fits}
use Rattle.leftovers.specs.Gathering.{folder_of}
use Rattle.leftovers.specs.declared.gathering.Source.{Source}
use Rattle.leftovers.proofs.Listings.{has_record}
use Rattle.leftovers.proofs.Namings.{asks_room}
use Rattle.leftovers.proofs.gathering.add_file.Goals as goal

pub add_record-requires-clause-folder : goal.add_record-requires-clause-folder
add_record-requires-clause-folder g c = subst IsContainerName (sym (c.requires.folder ∙ ap (λ (s : Source). folder_of s c.args.files.now.bucket.now) c.in-Records.is)) (uploads_fits c.args.files.now.bucket.now c.requires.bucket)

pub returns-in-Records : goal.returns-in-Records
returns-in-Records g c = record {
  asks = rw (c.in-Records.is) (asks_room (omega arith) (asks_under (has_record (c.requires.folder ∙ ap (λ (s : Source). folder_of s c.args.files.now.bucket.now) c.in-Records.is)) (c.add_record.ensures.asks c.args.files.now.bucket.now c.requires.bucket (c.requires.folder ∙ ap (λ (s : Source). folder_of s c.args.files.now.bucket.now) c.in-Records.is))));
  holds = λ observable. rw (c.in-Records.is) (c.add_record.ensures.holds observable);
  stays = c.add_record.ensures.stays;
  leaves = c.add_record.ensures.leaves;
}

pub returns-in-Objects : goal.returns-in-Objects
returns-in-Objects g c = record {
  asks = rw (c.requires.folder ∙ ap (λ (s : Source). folder_of s c.args.files.now.bucket.now) c.in-Objects.is, c.in-Objects.is) c.add_object.ensures.asks;
  holds = λ observable. rw (c.in-Objects.is) (c.add_object.ensures.holds observable);
  stays = c.add_object.ensures.stays;
  leaves = c.add_object.ensures.leaves;
}

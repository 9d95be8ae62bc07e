use Rattle.std.proofs.Common.{sym, subst}
use Rattle.swift_calls.specs.Step.{IsContainerName}
use Rattle.account_calls.proofs.lemmas.SideNames.{uploads_fits}
use Rattle.account_calls.proofs.lemmas.Quiet.{asks_under}
use Rattle.sweep.proofs.AgesOne.{file_listed}
use Rattle.sweep.proofs.AgedOne.{counted_record, read_in_vain, read_then}
use Rattle.sweep.proofs.forget.forget_record.Goals as goal

pub get_listed_record-requires-clause-folder : goal.get_listed_record-requires-clause-folder
get_listed_record-requires-clause-folder g c = subst IsContainerName (sym c.requires.folder.1.1) (uploads_fits c.requires.folder.0 c.requires.folder.1.0)

pub returns-in_err-told-clause-forgets : goal.returns-in_err-told-clause-forgets
returns-in_err-told-clause-forgets g c = λ bucket of.
    read_in_vain c.args.before bucket c.args.name.now (asks_under (file_listed bucket c.args.name.now) (c.in_err-told.ensures.asks bucket of.0 of.1)) _ c.from_residual.ensures.1

pub returns-clause-forgets : goal.returns-clause-forgets
returns-clause-forgets g c = λ bucket of.
    read_then c.args.before bucket c.args.name.now c.in_ok-told.told (asks_under (file_listed bucket c.args.name.now) (c.in_ok-told.ensures.asks bucket of.0 of.1)) (c.age_record.ensures.forgets bucket of)

pub returns-clause-counted : goal.returns-clause-counted
returns-clause-counted g c = counted_record _ _ _ c.in_ok-told.ensures.counted.0 c.in_ok-told.ensures.counted.1 _ c.age_record.ensures.counted

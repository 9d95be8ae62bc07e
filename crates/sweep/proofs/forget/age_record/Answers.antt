use Rattle.std.proofs.Common.{sym, subst, ◌∙◌}
use Rattle.swift_calls.specs.Step.{IsContainerName}
use Rattle.account_calls.proofs.lemmas.SideNames.{uploads_fits}
use Rattle.sweep.proofs.AgedOne.{aged_forgotten, aged_left, aged_migrated, aged_vain, aged_quiet_vain}
use Rattle.sweep.proofs.Fates.{fate_forgotten, fate_migrated}
use Rattle.sweep.proofs.forget.age_record.Goals as goal

pub delete_old_record-requires-clause-folder : goal.delete_old_record-requires-clause-folder
delete_old_record-requires-clause-folder g c = subst IsContainerName (sym c.requires.folder.1.1) (uploads_fits c.requires.folder.0 c.requires.folder.1.0)

pub put_dated_record-requires-clause-folder : goal.put_dated_record-requires-clause-folder
put_dated_record-requires-clause-folder g c = subst IsContainerName (sym c.requires.folder.1.1) (uploads_fits c.requires.folder.0 c.requires.folder.1.0)

pub put_dated_record-requires-clause-undated : goal.put_dated_record-requires-clause-undated
put_dated_record-requires-clause-undated g c = (fate_migrated c.args.before c.args.told (sym c.fate_of.ensures ∙ c.in-Migrated.is)).1

pub returns-in-Left-clause-forgets : goal.returns-in-Left-clause-forgets
returns-in-Left-clause-forgets g c = λ bucket of. aged_left c.args.before bucket c.args.name.now c.args.told (sym c.fate_of.ensures ∙ c.in-Left.is) _

pub returns-in_err-delete_old_record-in-Forgotten-clause-forgets : goal.returns-in_err-delete_old_record-in-Forgotten-clause-forgets
returns-in_err-delete_old_record-in-Forgotten-clause-forgets g c = λ bucket of.
    aged_vain c.args.before bucket c.args.name.now c.args.told
    (c.in_err-delete_old_record-in-Forgotten.ensures.forgets c.args.before bucket c.args.told of.0 of.1 (fate_forgotten c.args.before c.args.told (sym c.fate_of.ensures ∙ c.in-Forgotten.is)).0)
    _ c.from_residual.ensures.1

pub returns-in_ok-delete_old_record-in-Forgotten-clause-forgets : goal.returns-in_ok-delete_old_record-in-Forgotten-clause-forgets
returns-in_ok-delete_old_record-in-Forgotten-clause-forgets g c = λ bucket of.
    aged_forgotten c.args.before bucket c.args.name.now c.args.told (sym c.fate_of.ensures ∙ c.in-Forgotten.is)
    (c.in_ok-delete_old_record-in-Forgotten.ensures.forgets c.args.before bucket c.args.told of.0 of.1 (fate_forgotten c.args.before c.args.told (sym c.fate_of.ensures ∙ c.in-Forgotten.is)).0)

pub returns-in_err-put_dated_record-in-Migrated-clause-forgets : goal.returns-in_err-put_dated_record-in-Migrated-clause-forgets
returns-in_err-put_dated_record-in-Migrated-clause-forgets g c = λ bucket of.
    aged_quiet_vain c.args.before bucket c.args.name.now c.args.told
    (c.in_err-put_dated_record-in-Migrated.ensures.asks c.args.before bucket of.0 of.1 (fate_migrated c.args.before c.args.told (sym c.fate_of.ensures ∙ c.in-Migrated.is)).0)
    _ c.from_residual-in_err-put_dated_record-in-Migrated.ensures.1

pub returns-in_ok-put_dated_record-in-Migrated-clause-forgets : goal.returns-in_ok-put_dated_record-in-Migrated-clause-forgets
returns-in_ok-put_dated_record-in-Migrated-clause-forgets g c = λ bucket of.
    aged_migrated c.args.before bucket c.args.name.now c.args.told (sym c.fate_of.ensures ∙ c.in-Migrated.is)
    (c.in_ok-put_dated_record-in-Migrated.ensures.asks c.args.before bucket of.0 of.1 (fate_migrated c.args.before c.args.told (sym c.fate_of.ensures ∙ c.in-Migrated.is)).0)

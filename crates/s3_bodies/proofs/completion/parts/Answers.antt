use Rattle.std.proofs.Common.{[], ◌∷◌, ◌++◌, map, subst, sym}
use Rattle.std.proofs.lemmas.List.{append-nil}
use Rattle.xml_forms.specs.Forms.{Skips}
use Rattle.xml_forms.proofs.lemmas.Manies.{skips_more, skips_none}
use Rattle.s3_bodies.specs.Completion.{Part}
use Rattle.s3_bodies.specs.PartReaders.{part_of}
use Rattle.s3_bodies.proofs.CompletionLemmas.{grown}
use Rattle.s3_bodies.proofs.completion.parts.Goals as goal

pub parts-preserved : goal.parts-preserved
parts-preserved c = λ more last left s.
    subst (λ have. Skips Part c.args.bytes.now (map part_of have ++ more) last left) (sym c.in_ok-push-in-Ok.ensures.ok)
    (grown c.args.bytes.now c.in-Ok.after.now last c.parts.parts c.in-Ok.part more left
    (c.parts.invariant (part_of c.in-Ok.part ∷ more) last left (skips_more Part c.parts.rest.now c.in-Ok.after.now last (part_of c.in-Ok.part) more left c.in-Ok.ensures s)))

pub returns-in-Err : goal.returns-in-Err
returns-in-Err c =
    subst (λ items. Skips Part c.args.bytes.now items c.parts.rest.now c.in-Err.left) (append-nil (map part_of c.parts.parts))
    (c.parts.invariant [] c.parts.rest.now c.in-Err.left (skips_none Part c.parts.rest.now c.in-Err.left c.in-Err.ensures))

use Rattle.std.proofs.Common.{◌∙◌, ap, arith, map}
use Rattle.std.proofs.lemmas.List.{length-map}
use Rattle.s3_bodies.specs.Completion.{listed_of}
use Rattle.s3_bodies.specs.PartReaders.{part_of}
use Rattle.s3_bodies.proofs.CompletionLemmas.{listed_all}
use Rattle.s3_bodies.proofs.completion.listed_in_completion_xml.Goals as goal

pub returns : goal.returns
returns c = (
  map part_of c.in_ok-parts.parts,
  c.in_ok-parts.ensures,
  omega (arith, length-map c.in_ok-parts.parts part_of, c.len.ensures, c.if-len-gt-MOST_PARTS.false),
  c.in_ok-owned_completion_xml_parts.ensures ∙ ap (map (λ part. listed_of (part_of part))) c.as_slice.ensures ∙ listed_all c.in_ok-parts.parts,
)

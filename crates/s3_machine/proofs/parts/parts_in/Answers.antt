use Rattle.std.proofs.Common.{◌≡◌, ℕ, ◌-◌, List, length, take, drop, ap, sym, ◌∙◌, arith}
use Rattle.std.proofs.lemmas.List.{length-drop, take_all}
use Rattle.text_forms.specs.Numbers.{number_of}
use Rattle.s3_machine.proofs.Counts.{no_count}
use Rattle.s3_machine.proofs.parts.parts_in.Goals as goal

-- what stands behind the 33 bytes is the rest
behind : (etag : List ℕ) → take (length etag - 33) (drop 33 etag) ≡ drop 33 etag
behind etag = take_all (length etag - 33) (drop 33 etag) (omega (arith, length-drop 33 etag))

pub returns-then-etag-le33 : goal.returns-then-etag-le33
returns-then-etag-le33 c = no_count c.args.etag.now (omega arith)

pub returns-in-Some : goal.returns-in-Some
returns-in-Some c = sym c.in-Some.is ∙ c.count_of_parts.ensures.value ∙ ap (number_of 5) (behind c.args.etag.now)

pub returns-in-None : goal.returns-in-None
returns-in-None c = sym c.in-None.is ∙ c.count_of_parts.ensures.value ∙ ap (number_of 5) (behind c.args.etag.now)

use Rattle.std.proofs.Common.{ap, sym, ◌∙◌, Err}
use Rattle.std.proofs.lemmas.Bool.{false≢true}
use Rattle.http_wire.proofs.LookLemmas.{never, none_of_never, partial_lives, inside_has_none}
use Rattle.http_wire.proofs.look.look.Goals as goal

pub returns-in-Ok-Partial : goal.returns-in-Ok-Partial
returns-in-Ok-Partial c =
    let none = rw c.in-Ok-Partial.field-0-is at c.in-Ok-Partial.ensures.partial in
    let lives = rw c.in-Ok-Partial.field-0-is at c.in-Ok-Partial.ensures.unfinished in
    (none, partial_lives _ lives)

pub returns-then-ends_inside : goal.returns-then-ends_inside
returns-then-ends_inside c = (
  none_of_never _ (never _ _ _ c.requires.room c.requires.short c.in-Err.ensures.invalid (λ e. c.in-Err.ensures.too_many (ap Err e))),
  inside_has_none _ (c.ends_inside.ensures.0 c.if-ends_inside.true),
)

pub returns-else-ends_inside : goal.returns-else-ends_inside
returns-else-ends_inside c = (
  never _ _ _ c.requires.room c.requires.short c.in-Err.ensures.invalid (λ e. c.in-Err.ensures.too_many (ap Err e)),
  λ inside. false≢true (sym c.if-ends_inside.false ∙ c.ends_inside.ensures.1 inside),
)

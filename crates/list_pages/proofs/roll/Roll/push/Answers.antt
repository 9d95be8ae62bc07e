use Rattle.std.proofs.Common.{◌++◌, ◌∷◌, [], ap, sym, subst, ◌∙◌}
use Rattle.list_pages.specs.Rolling.{Rolled}
use Rattle.list_pages.specs.Rolls.{Rolls, head_in, rows_of, seen_of}
use Rattle.list_pages.proofs.lemmas.Rolling.{push_over}
use Rattle.list_pages.proofs.roll.Roll.push.Goals as goal

pub returns-then-self-clause-rolled : goal.returns-then-self-clause-rolled
returns-then-self-clause-rolled c = λ seen r b. subst (λ (s : Rolls). Rolled s.wanted (rows_of s.items) s.more (seen ++ seen_of c.args.item.now ∷ [])) (sym c.self.view_is)
    (push_over c.args.self.now.wanted (rows_of c.args.self.now.items) c.args.self.now.more seen c.args.item.now.name (head_in c.args.item.now) c.requires r b (sym (ap (λ (s : Rolls). s.more) c.self.view_is) ∙ c.if-self.true))

pub returns-clause-rolled : goal.returns-clause-rolled
returns-clause-rolled c = λ seen r b. subst (λ (s : Rolls). Rolled s.wanted (rows_of s.items) s.more (seen ++ seen_of c.args.item.now ∷ [])) (sym c.self-2.view_is) (c.in_ok-take.ensures.rolled seen r b)

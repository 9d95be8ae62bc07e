use Rattle.std.proofs.Common.{◌≡◌, subst, rules}
use Rattle.std.specs.Prelude.{IfOk}
use Rattle.swift_requests.proofs.ReadingLemmas.{call_at_path}
use Rattle.swift_requests.proofs.call_reader.call_of.Goals as goal

pub returns-in-Some : goal.returns-in-Some
returns-in-Some c =
    subst (λ made. IfOk c.call_at.result (λ call. call ≡ made)) (call_at_path c.args.place.now c.args.message c.in-Some.path (search rules)) c.call_at.ensures

use Rattle.std.proofs.Common.{◌≡◌, ◌++◌, [], refl, sym, ap, subst, ◌∙◌}
use Rattle.swift_requests.specs.Calls.{SpellsRequest}
use Rattle.swift_requests.specs.CallText.{body_with, call_text}
use Rattle.swift_requests.proofs.TextLemmas.{whole_text}
use Rattle.swift_requests.proofs.call_writer.write_call_with_body.Goals as goal

pub returns : goal.returns
returns c =
    let text : c.in_ok-head.head ++ body_with c.args.call.now c.args.made ≡ call_text c.args.newest c.args.place.now c.args.call.now =
    ap (λ t. c.in_ok-head.head ++ t) c.requires.body
    ∙ whole_text c.args.newest c.args.place.now c.args.call.now [] _ _ _ _ _ refl refl refl c.in_ok-head.ensures refl refl in
    record {
      text = text;
      spells = subst (SpellsRequest c.args.place.now c.args.call.now) (sym text) (c.law_call_reads_back.ensures c.args.newest c.args.place.now c.args.call.now c.requires.place c.requires.fit);
    }

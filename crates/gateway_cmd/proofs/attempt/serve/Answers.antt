use Rattle.std.proofs.Common.{refl}
use Rattle.gateway_cmd.proofs.Sessions.{line_served_out, line_served_on}
use Rattle.gateway_cmd.proofs.attempt.serve.Goals as goal

pub returns-in-Done-clause-fits : goal.returns-in-Done-clause-fits
returns-in-Done-clause-fits g c = refl

pub returns-in-Done-clause-taken : goal.returns-in-Done-clause-taken
returns-in-Done-clause-taken g c = λ e. cc

pub returns-in-Done-clause-line : goal.returns-in-Done-clause-line
returns-in-Done-clause-line g c = line_served_out (record { settings = c.args.settings; most = c.args.most }) (g.N.Line.model c.args.lent.now.line.now) (g.N.Line.model c.session.new.lent.line.now) (rw c.in-Done.is at c.session.ensures.line)

pub returns-in-Done-clause-serves : goal.returns-in-Done-clause-serves
returns-in-Done-clause-serves g c = (c.session.new.lent.known, c.session.ensures.serves)

pub returns-clause-fits : goal.returns-clause-fits
returns-clause-fits g c = refl

pub returns-clause-taken : goal.returns-clause-taken
returns-clause-taken g c = λ e. cc

pub returns-clause-line : goal.returns-clause-line
returns-clause-line g c = line_served_on (record { settings = c.args.settings; most = c.args.most }) (g.N.Line.model c.args.lent.now.line.now) (g.N.Line.model c.session.new.lent.line.now) (rw c.in-Line.is at c.session.ensures.line)

pub returns-clause-serves : goal.returns-clause-serves
returns-clause-serves g c = (c.session.new.lent.known, c.session.ensures.serves)

pub returns-in-Done-clause-stays : goal.returns-in-Done-clause-stays
returns-in-Done-clause-stays g c =
    let stays = c.session.ensures.stays in
    record { line = stays.line; store = stays.store; clock = stays.clock; draws = stays.draws }

pub returns-clause-stays : goal.returns-clause-stays
returns-clause-stays g c =
    let stays = c.session.ensures.stays in
    record { line = stays.line; store = stays.store; clock = stays.clock; draws = stays.draws }

use Rattle.gateway.proofs.Calendars.{calendars_agree}
use Rattle.gateway.proofs.laws.law_calendars_agree.Goals as goal

pub returns : goal.returns
returns c = λ year month day h. calendars_agree year month day h

use Rattle.presign.proofs.url.credential_for.Goals as goal

pub returns : goal.returns
returns c = rw c.date_of-date.ensures at c.concatenated.ensures

use Rattle.upload_texts.proofs.Answering.{sealed_unparsed}
use Rattle.upload_texts.proofs.sealed.Sealed.read.Goals as goal

pub returns-in-Err : goal.returns-in-Err
returns-in-Err c = sealed_unparsed c.args.bytes.now c.in-Err.fault c.in-Err.ensures

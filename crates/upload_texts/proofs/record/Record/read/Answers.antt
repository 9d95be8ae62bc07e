use Rattle.upload_texts.proofs.Answering.{record_unparsed}
use Rattle.upload_texts.proofs.record.Record.read.Goals as goal

pub returns-in-Err : goal.returns-in-Err
returns-in-Err c = record_unparsed c.args.bytes.now c.in-Err.fault c.in-Err.ensures

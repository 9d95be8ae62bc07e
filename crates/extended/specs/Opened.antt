-- A message whose body comes in chunks, opened: who sent it, and the message with its data in place of its body. Source: Amazon S3
-- API Reference, as in `Chunks`; the order of the refusals is this profile's.
use Rattle.std.specs.Prelude.{◌≡◌, ◌≢◌, ℕ, true, if◌then◌else◌, List, [], replicate, Option, Some, None, Result, Ok, Err}
use Rattle.gate_base.specs.declared.caller.Caller.{Caller}
use Rattle.gate_base.specs.declared.caller.Caller.TheVariants.{Owner, Anonymous}
use Rattle.s3_names.specs.declared.target.Target.{Target}
use Rattle.http_wire.specs.declared.message.Message.{Message}
use Rattle.s3_machine.specs.declared.code.Code.{Code}
use Rattle.s3_machine.specs.declared.code.Code.TheVariants.{InvalidRequest}
use Rattle.s3_requests.specs.declared.meant.Meant.{Meant}
use Rattle.s3_requests.specs.declared.meant.Meant.TheVariants as meant
use Rattle.sigv4.specs.declared.keys.AccessKey.{AccessKey}
use Rattle.sigv4.specs.declared.pieces.Seal.{Seal}
use Rattle.sigv4.specs.declared.refusal.Refusal.{Refusal}
use Rattle.sigv4.specs.Chunked.{seal_or_refusal}
use Rattle.chunked.specs.declared.body.Decoded.{Decoded}
use Rattle.chunked.specs.declared.fault.ChunkedFault.{ChunkedFault}
use Rattle.chunked.specs.declared.form.ChunkedForm.{ChunkedForm}
use Rattle.chunked.specs.Forms.{is_signed}
use Rattle.chunked.specs.Reading.{decoded_of}
use Rattle.extended.specs.declared.sender.Sender.{Sender}
use Rattle.extended.specs.Chunks.{announced_length, decoded_headers}
use Rattle.extended.specs.Refused.{refused_by, refused_by_chunks}

-- who sent a message, and the message as its meaning is found
pub record Opened : Type 0 where
  pub sender : Sender
  pub message : Message

-- what chunks without signatures are read with, of which nothing is looked at
abbrev pub unused_seal : Seal
unused_seal = record { key = replicate 32 0; date_time = []; scope = []; signature = [] }

-- the message with its data in place of its body
abbrev pub with_data : Message → List ℕ → Message
with_data message bytes = record message { headers = decoded_headers message.headers; body = bytes }

-- by what the body says
abbrev pub opened_by : Caller → Message → Result Decoded ChunkedFault → Result Opened Meant
opened_by caller message (Ok decoded) =
    Ok
    (record {
      sender = record { caller = caller; chunked = true; trailers = decoded.trailers };
      message = with_data message decoded.«data»;
    })
opened_by caller message (Err fault) = Err (refused_by_chunks fault)

-- by how many bytes of data are announced
abbrev pub opened_with : Caller → ChunkedForm → Seal → Message → Result ℕ Code → Result Opened Meant
opened_with caller form seal message (Ok count) = opened_by caller message (decoded_of form seal count message.body)
opened_with caller form seal message (Err code) = Err (meant.Refused code)

-- by who signed the head: the owner; or nobody, who can't send chunks that are signed
abbrev pub opened_for : ℕ → ChunkedForm → Message → Result (Option Seal) Refusal → Result Opened Meant
opened_for largest form message (Ok (Some seal)) = opened_with Owner form seal message (announced_length largest message.headers)
opened_for largest form message (Ok None) =
    if is_signed form then Err (meant.Refused InvalidRequest)
    else opened_with Anonymous form unused_seal message (announced_length largest message.headers)
opened_for largest form message (Err refusal) = Err (refused_by refusal)

-- a message of this form, opened, or what it is answered
unfoldable pub opened : List AccessKey → List ℕ → ℕ → ChunkedForm → Message → Target → ℕ → Result Opened Meant
opened keys region largest form message target moment =
    opened_for largest form message (seal_or_refusal keys region message target moment)

-- what opening gave, and the message that it left, are what it comes to; where memory ran out it may say nothing
abbrev pub Opens : Result Opened Meant → Result Sender Meant → Message → Type 0
Opens due (Ok sender) left = due ≡ Ok (record { sender = sender; message = left })
Opens due (Err means) left = means ≢ meant.Memory → due ≡ Err means

-- The record of a name that a listing told of, as GET of its file gives it. Source: Object Storage API v1 and this profile.
use Rattle.std.specs.Prelude.{◌≡◌, ℕ, List, Option, None, Some, Result, Ok, Err}
use Rattle.swift_calls.specs.Account.{SwiftAccount, files}
use Rattle.swift_calls.specs.declared.calls.SwiftReply.{SwiftReply}
use Rattle.swift_calls.specs.declared.calls.SwiftReply.TheVariants.{Bytes}
use Rattle.upload_texts.specs.Records.{read_record}
use Rattle.upload_texts.specs.declared.record.Record.{Record}
use Rattle.upload_records.specs.Layout.{uploads_name}
use Rattle.upload_records.specs.Native.{record_at}
use Rattle.account_calls.specs.declared.fault.PlanFault.{PlanFault}
use Rattle.account_calls.specs.declared.fault.PlanFault.TheVariants.{Inconsistent}

-- the record of a name beside a bucket is this one
abbrev pub TellsRecord : List ℕ → List ℕ → SwiftAccount → Record → Type 0
TellsRecord bucket name tree told = Some told ≡ record_at (files tree (uploads_name bucket)) name

-- what the bytes of its file say: those that are no record are inconsistent
abbrev pub listed_record_by : Option Record → Result Record PlanFault
listed_record_by None = Err Inconsistent
listed_record_by (Some told) = Ok told

-- GET of its file, which a listing has just told of: so that it isn't there is inconsistent, and no reason to take its upload for
-- ended
abbrev pub listed_record_due : SwiftReply → Result Record PlanFault
listed_record_due (Bytes head body) = listed_record_by (read_record body)
listed_record_due _ = Err Inconsistent

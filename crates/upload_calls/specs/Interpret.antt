-- What an answer of the store comes to, by the call on a record or a part that it answers; and what is put. Source: Object
-- Storage API v1 and this profile.
use Rattle.std.specs.Prelude.{ℕ, Bool, true, false, List, [], ◌∷◌, codes, Option, None, Some, Result, Ok, Err}
use Rattle.s3_names.specs.Id.{id_digits}
use Rattle.s3_machine.specs.ETag.{body_etag}
use Rattle.swift_calls.specs.declared.calls.SwiftRequest.{SwiftRequest}
use Rattle.swift_calls.specs.Files.{PutObject}
use Rattle.swift_calls.specs.declared.calls.SwiftReply.{SwiftReply}
use Rattle.swift_calls.specs.declared.calls.SwiftReply.TheVariants.{NotFound, Names, Head, Bytes}
use Rattle.swift_marks.specs.declared.tag.Tag.{Tag}
use Rattle.swift_marks.specs.Tag.{tag_text}
use Rattle.upload_texts.specs.Records.{read_record}
use Rattle.upload_texts.specs.declared.record.Record.{Record}
use Rattle.upload_records.specs.Layout.{segment_name, segments_name, uploads_name}
use Rattle.account_calls.specs.Interpret.{known}
use Rattle.account_calls.specs.declared.fault.PlanFault.{PlanFault}
use Rattle.account_calls.specs.declared.fault.PlanFault.TheVariants.{Inconsistent}

-- GET of a record's file: what its bytes read as
abbrev pub record_due : SwiftReply → Result (Option Record) PlanFault
record_due (Bytes head body) = known (read_record body)
record_due NotFound = Ok None
record_due _ = Err Inconsistent

-- HEAD of a record's file: whether it is there
abbrev pub there_due : SwiftReply → Result Bool PlanFault
there_due (Head head) = Ok true
there_due NotFound = Ok false
there_due _ = Err Inconsistent

-- a listing of one segment: whether there is one
abbrev pub any_due : SwiftReply → Result Bool PlanFault
any_due (Names []) = Ok false
any_due (Names (item ∷ items)) = Ok true
any_due _ = Err Inconsistent

-- ---- what is put

-- the text of an open record has no more bytes
abbrev pub most_open_text : ℕ
most_open_text = 30000

-- the content type of a record's file
abbrev pub record_type : List ℕ
record_type = codes "application/json"

-- the PUT of a record of this text
abbrev pub put_record_of : List ℕ → ℕ → List ℕ → SwiftRequest
put_record_of bucket id text = PutObject (uploads_name bucket) (id_digits id) record_type [] text

-- the tag of a part that is put, with the ETag of its bytes. A part has no type of its own
abbrev pub part_tag : List ℕ → ℕ → ℕ → Tag
part_tag etag moment id = record { content_type = codes "application/octet-stream"; etag = etag; moment = moment; id = Some id }

-- the PUT of a part's file
abbrev pub put_part_of : List ℕ → ℕ → ℕ → List ℕ → ℕ → SwiftRequest
put_part_of bucket id number body moment =
    PutObject (segments_name bucket) (segment_name (id_digits id) number) (tag_text (part_tag (body_etag body) moment id)) [] body

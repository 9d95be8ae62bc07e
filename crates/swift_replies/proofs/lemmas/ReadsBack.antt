-- What is written for a reply is read back.
use Rattle.std.proofs.Common.{◌≡◌, Bool, true, false, None, Some, refl, ap}
use Rattle.std.specs.Prelude.{is_some}
use Rattle.std.proofs.lemmas.Bool.{false≢true}
use Rattle.slo_manifest.specs.Laws.{TextReadsBack}
use Rattle.swift_calls.specs.declared.calls.FilePut.{FilePut}
use Rattle.swift_calls.specs.declared.calls.SwiftRequest.TheVariants.{
  ListContainers,
  HeadContainer,
  PutContainer,
  PostContainer,
  DeleteContainer,
  ListNames,
  PutObject,
  PutManifest,
  HeadObject,
  GetObject,
  GetManifest,
  DeleteObject,
}
use Rattle.swift_calls.specs.declared.calls.SwiftReply.TheVariants.{
  Made,
  There,
  Gone,
  Stored,
  NotFound,
  Exists,
  NotEmpty,
  BadManifest,
  Unsatisfiable,
  Containers,
  Readers,
  Names,
  Head,
  Bytes,
  Manifest,
}
use Rattle.swift_replies.specs.AnswerLaws.{ReadsBack}
use Rattle.swift_replies.specs.AnswerText.{exists_sent, text_by}
use Rattle.swift_replies.specs.Answers.{SpellsAnswer, exists_reply}
use Rattle.swift_replies.proofs.lemmas.BareRows.{bare_spells, gone_spells, missing_spells}
use Rattle.swift_replies.proofs.lemmas.HeadRows.{bytes_read_back, head_reads_back}
use Rattle.swift_replies.proofs.lemmas.ListRows.{containers_read_back, names_read_back}
use Rattle.swift_replies.proofs.lemmas.ReadersRow.{readers_reads_back}
use Rattle.swift_replies.proofs.lemmas.SegmentRows.{segments_read_back}
use Rattle.swift_replies.proofs.lemmas.ValueRows.{stored_reads_back, listed_reads_back}

-- that an object is there under the name of a fresh one
exists_reads_back : (put : FilePut) → is_some (exists_sent put.fresh) ≡ true → SpellsAnswer (PutObject put) Exists (text_by (exists_sent put.fresh))
exists_reads_back put spelled = by put.fresh refl spelled
  where
    by : (fresh : Bool) → put.fresh ≡ fresh → is_some (exists_sent fresh) ≡ true → SpellsAnswer (PutObject put) Exists (text_by (exists_sent fresh))
    by true is spelled = bare_spells (PutObject put) Exists 412 refl refl (ap exists_reply is)
    by false is spelled = absurd (false≢true spelled)

pub reads_back : TextReadsBack → ReadsBack
reads_back law (ListContainers marker limit) (Containers names) spelled within = containers_read_back marker limit names spelled within
reads_back law (ListContainers marker limit) reply spelled within = absurd (false≢true spelled)
reads_back law (HeadContainer container) (Readers readers created) spelled within = readers_reads_back container readers created spelled
reads_back law (HeadContainer container) NotFound spelled within = missing_spells (HeadContainer container) refl
reads_back law (HeadContainer container) reply spelled within = absurd (false≢true spelled)
reads_back law (PutContainer container readers created) Made spelled within = bare_spells (PutContainer container readers created) Made 201 refl refl refl
reads_back law (PutContainer container readers created) There spelled within = bare_spells (PutContainer container readers created) There 202 refl refl refl
reads_back law (PutContainer container readers created) reply spelled within = absurd (false≢true spelled)
reads_back law (PostContainer container readers) Gone spelled within = gone_spells (PostContainer container readers) refl
reads_back law (PostContainer container readers) NotFound spelled within = missing_spells (PostContainer container readers) refl
reads_back law (PostContainer container readers) reply spelled within = absurd (false≢true spelled)
reads_back law (DeleteContainer container) Gone spelled within = gone_spells (DeleteContainer container) refl
reads_back law (DeleteContainer container) NotFound spelled within = missing_spells (DeleteContainer container) refl
reads_back law (DeleteContainer container) NotEmpty spelled within = bare_spells (DeleteContainer container) NotEmpty 409 refl refl refl
reads_back law (DeleteContainer container) reply spelled within = absurd (false≢true spelled)
reads_back law (ListNames container prefix marker limit) (Names items) spelled within = names_read_back container prefix marker limit items spelled within
reads_back law (ListNames container prefix marker limit) NotFound spelled within = missing_spells (ListNames container prefix marker limit) refl
reads_back law (ListNames container prefix marker limit) reply spelled within = absurd (false≢true spelled)
reads_back law (PutObject put) (Stored etag) spelled within = stored_reads_back put etag spelled
reads_back law (PutObject put) NotFound spelled within = missing_spells (PutObject put) refl
reads_back law (PutObject put) Exists spelled within = exists_reads_back put spelled
reads_back law (PutObject put) reply spelled within = absurd (false≢true spelled)
reads_back law (PutManifest container name content_type meta segments) (Stored etag) spelled within = listed_reads_back container name content_type meta segments etag spelled
reads_back law (PutManifest container name content_type meta segments) NotFound spelled within = missing_spells (PutManifest container name content_type meta segments) refl
reads_back law (PutManifest container name content_type meta segments) BadManifest spelled within = bare_spells (PutManifest container name content_type meta segments) BadManifest 400 refl refl refl
reads_back law (PutManifest container name content_type meta segments) reply spelled within = absurd (false≢true spelled)
reads_back law (HeadObject container name) (Head head) spelled within = head_reads_back container name head spelled
reads_back law (HeadObject container name) NotFound spelled within = missing_spells (HeadObject container name) refl
reads_back law (HeadObject container name) reply spelled within = absurd (false≢true spelled)
reads_back law (GetObject container name range) (Bytes head body) spelled within = bytes_read_back container name range head body spelled
reads_back law (GetObject container name range) NotFound spelled within = missing_spells (GetObject container name range) refl
reads_back law (GetObject container name None) Unsatisfiable spelled within = absurd (false≢true spelled)
reads_back law (GetObject container name (Some range)) Unsatisfiable spelled within = bare_spells (GetObject container name (Some range)) Unsatisfiable 416 refl refl refl
reads_back law (GetObject container name range) reply spelled within = absurd (false≢true spelled)
reads_back law (GetManifest container name) (Manifest segments) spelled within = segments_read_back law container name segments spelled within
reads_back law (GetManifest container name) NotFound spelled within = missing_spells (GetManifest container name) refl
reads_back law (GetManifest container name) reply spelled within = absurd (false≢true spelled)
reads_back law (DeleteObject container name) Gone spelled within = gone_spells (DeleteObject container name) refl
reads_back law (DeleteObject container name) NotFound spelled within = missing_spells (DeleteObject container name) refl
reads_back law (DeleteObject container name) reply spelled within = absurd (false≢true spelled)

-- The state of an S3 service: buckets by name, and in each its objects, open uploads and kept completions.
-- Source: Amazon S3 API Reference; that a completion is kept, so that it can be repeated, is this profile's.
use Rattle.std.specs.Prelude.{ℕ, List, refl}
use Rattle.std.specs.Coded.{Coded, code_by, coded×, coded_ℕ, coded_list}
use Rattle.std.specs.FinMap as map
use Rattle.gate_base.specs.Maps.{Names, Numbers}
use Rattle.gate_base.specs.declared.page.Pair.{Pair}
use Rattle.gate_base.specs.contracts.page.Pair as pair
use Rattle.s3_names.specs.declared.acl.Acl.{Acl}
use Rattle.s3_names.specs.contracts.acl.Acl as acl
use Rattle.s3_machine.specs.declared.operation.Listed.{Listed}
use Rattle.s3_machine.specs.declared.operation.Settings.{Settings}
use Rattle.s3_machine.specs.contracts.operation.Listed as listed
use Rattle.s3_machine.specs.contracts.operation.Settings as settings

-- ETags stand without quotes; times are seconds since the beginning of 1970
pub record Object : Type 0 where
  pub bytes : List ℕ
  pub etag : List ℕ
  pub content_type : List ℕ
  pub meta : List Pair
  pub modified : ℕ

pub record Part : Type 0 where
  pub bytes : List ℕ
  pub etag : List ℕ
  pub modified : ℕ

-- an open upload; its parts stand under their numbers
pub record Upload : Type 0 where
  pub key : List ℕ
  pub content_type : List ℕ
  pub meta : List Pair
  pub started : ℕ
  pub parts : Numbers Part

-- what is kept of a completed upload, so that the same completion can be answered again; the moment is that of the completion
pub record Completion : Type 0 where
  pub key : List ℕ
  pub list : List Listed
  pub etag : List ℕ
  pub started : ℕ
  pub moment : ℕ

-- objects stand under their keys; uploads and completions under the text of their id
pub record Bucket : Type 0 where
  pub created : ℕ
  pub acl : Acl
  pub objects : Names Object
  pub uploads : Names Upload
  pub kept : Names Completion

abbrev pub State : Type 0
State = Names Bucket

-- a service: its settings and its state
pub record Machine : Type 0 where
  pub settings : Settings
  pub state : State

-- ---- the code by which a proof tells values of these types apart

abbrev pub object_code : Coded Object
object_code = code_by (List ℕ × (List ℕ × (List ℕ × (List Pair × ℕ))))
    (coded× (coded_list coded_ℕ) (coded× (coded_list coded_ℕ) (coded× (coded_list coded_ℕ) (coded× (coded_list pair.the_row.coded) coded_ℕ))))
    (λ o. (o.bytes, (o.etag, (o.content_type, (o.meta, o.modified)))))
    (λ p. record { bytes = p.0; etag = p.1.0; content_type = p.1.1.0; meta = p.1.1.1.0; modified = p.1.1.1.1 }) (λ _. refl)

abbrev pub part_code : Coded Part
part_code = code_by (List ℕ × (List ℕ × ℕ)) (coded× (coded_list coded_ℕ) (coded× (coded_list coded_ℕ) coded_ℕ))
    (λ p. (p.bytes, (p.etag, p.modified))) (λ p. record { bytes = p.0; etag = p.1.0; modified = p.1.1 }) (λ _. refl)

abbrev pub upload_code : Coded Upload
upload_code = code_by (List ℕ × (List ℕ × (List Pair × (ℕ × Numbers Part))))
    (coded× (coded_list coded_ℕ) (coded× (coded_list coded_ℕ) (coded× (coded_list pair.the_row.coded) (coded× coded_ℕ (map.code coded_ℕ part_code)))))
    (λ u. (u.key, (u.content_type, (u.meta, (u.started, u.parts)))))
    (λ p. record { key = p.0; content_type = p.1.0; meta = p.1.1.0; started = p.1.1.1.0; parts = p.1.1.1.1 }) (λ _. refl)

abbrev pub completion_code : Coded Completion
completion_code = code_by (List ℕ × (List Listed × (List ℕ × (ℕ × ℕ))))
    (coded× (coded_list coded_ℕ) (coded× (coded_list listed.the_row.coded) (coded× (coded_list coded_ℕ) (coded× coded_ℕ coded_ℕ))))
    (λ c. (c.key, (c.list, (c.etag, (c.started, c.moment)))))
    (λ p. record { key = p.0; list = p.1.0; etag = p.1.1.0; started = p.1.1.1.0; moment = p.1.1.1.1 }) (λ _. refl)

abbrev pub bucket_code : Coded Bucket
bucket_code = code_by (ℕ × (Acl × (Names Object × (Names Upload × Names Completion))))
    (coded× coded_ℕ (coded× acl.the_row.coded (coded× (map.code (coded_list coded_ℕ) object_code)
    (coded× (map.code (coded_list coded_ℕ) upload_code) (map.code (coded_list coded_ℕ) completion_code)))))
    (λ b. (b.created, (b.acl, (b.objects, (b.uploads, b.kept)))))
    (λ p. record { created = p.0; acl = p.1.0; objects = p.1.1.0; uploads = p.1.1.1.0; kept = p.1.1.1.1 }) (λ _. refl)

abbrev pub machine_code : Coded Machine
machine_code = code_by (Settings × State) (coded× settings.the_row.coded (map.code (coded_list coded_ℕ) bucket_code))
    (λ m. (m.settings, m.state)) (λ p. record { settings = p.0; state = p.1 }) (λ _. refl)

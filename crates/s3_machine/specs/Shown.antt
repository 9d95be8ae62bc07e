-- What is asked of a reply, so that it has a page. Source: this profile.
use Rattle.s3_machine.specs.declared.operation.Reply.TheVariants.{OfObjects, OfUploads}
use Rattle.s3_machine.specs.declared.operation.Reply.TheVariants as reply_as
use Rattle.s3_machine.specs.declared.operation.ObjectsReply.TheVariants as objects_reply
use Rattle.s3_machine.specs.declared.operation.UploadsReply.TheVariants as uploads_reply
use Rattle.std.specs.Prelude.{◌<◌, ◌≤◌, ◌+◌, ◌^◌, ℕ, Bool, IsTrue, IfSome}
use Rattle.std.specs.List.{All}
use Rattle.gate_base.specs.Told.{moment_limit}
use Rattle.s3_machine.specs.declared.items.BucketItem.{BucketItem}
use Rattle.s3_machine.specs.declared.items.Item.{Item}
use Rattle.s3_machine.specs.declared.items.ItemHead.{ItemHead}
use Rattle.s3_machine.specs.declared.items.PartItem.{PartItem}
use Rattle.s3_machine.specs.declared.items.UploadItem.{UploadItem}
use Rattle.s3_machine.specs.declared.operation.ObjectHead.{ObjectHead}
use Rattle.s3_machine.specs.declared.operation.Reply.{Reply}
use Rattle.s3_machine.specs.declared.operation.Reply.TheVariants.{Refused, Memory, Done, Gone, NotModified, Stored}

-- a moment that has a date
abbrev pub IsDated : ℕ → Type 0
IsDated moment = moment < moment_limit

-- an object: a moment that has a date, an end that numbers hold, and a part that isn't empty
pub record IsShown (head : ObjectHead) (from length : ℕ) (partial : Bool) : Type 0 where
  pub dated : head.modified < moment_limit
  pub ends : from + length ≤ 2 ^ 63
  pub filled : IsTrue partial → 0 < length

-- the items of a listing, each with its moment
abbrev pub IsShownBucket : BucketItem → Type 0
IsShownBucket item = IsDated item.created

abbrev pub IsShownItemHead : ItemHead → Type 0
IsShownItemHead head = IsDated head.modified

-- an item of a listing: of an object, a moment that has a date
abbrev pub IsShownItem : Item → Type 0
IsShownItem item = IfSome item.object IsShownItemHead

-- an upload that is listed: a start that has a date
abbrev pub IsShownUpload : UploadItem → Type 0
IsShownUpload item = IsDated item.started

-- a part that is listed: a moment that has a date
abbrev pub IsShownPart : PartItem → Type 0
IsShownPart item = IsDated item.modified

-- a reply has a page: each moment in it has a date, and of an object the bytes that are sent have an end that numbers hold
abbrev pub IsShowable : Reply → Type 0
IsShowable (Refused code) = Unit {0}
IsShowable Memory = Unit {0}
IsShowable Done = Unit {0}
IsShowable Gone = Unit {0}
IsShowable (NotModified head) = IsDated head.modified
IsShowable (OfObjects (objects_reply.Buckets page)) = All IsShownBucket page.items
IsShowable (OfObjects (objects_reply.Made bucket)) = Unit {0}
IsShowable (OfObjects (objects_reply.Location region)) = Unit {0}
IsShowable (OfObjects (objects_reply.AclOf acl)) = Unit {0}
IsShowable (OfObjects (objects_reply.Objects page)) = All IsShownItem page.items
IsShowable (OfUploads (uploads_reply.Uploads page)) = All IsShownUpload page.items
IsShowable (Stored stored) = Unit {0}
IsShowable (reply_as.Object object) = IsShown object.head object.from object.length object.partial
IsShowable (OfUploads (uploads_reply.Started started)) = Unit {0}
IsShowable (OfUploads (uploads_reply.Parts page)) = All IsShownPart page.items
IsShowable (OfUploads (uploads_reply.Completed completed)) = Unit {0}
IsShowable (OfObjects (objects_reply.Deleted deleted)) = Unit {0}
IsShowable (OfObjects (objects_reply.Setting page)) = Unit {0}
IsShowable (reply_as.Copied copied) = IsDated copied.modified

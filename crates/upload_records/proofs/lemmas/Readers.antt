-- Who may read a bucket, by its container.
use Rattle.s3_names.specs.declared.acl.Acl.{Acl}
use Rattle.swift_calls.specs.Account.{SwiftContainer}
use Rattle.upload_records.specs.Layout.{acl_of}

abbrev pub acl_of_folder : SwiftContainer → Acl
acl_of_folder folder = acl_of folder.readers

use Rattle.std.proofs.Common.{◌≡◌, ◌++◌, map}
use Rattle.s3_native.proofs.uploads.native_upload_items.Given as goal

abbrev pub invariant-loop-place : goal.invariant-loop-place
invariant-loop-place l = l.items ++ map (λ e. e.1) l._place-iterator ≡ map (λ e. e.1) l.initial._place-iterator

use Rattle.std.proofs.Common.{◌≡◌, ◌++◌, map}
use Rattle.plan_uploads.proofs.listed_uploads.open_uploads_in_order.Given as goal

abbrev pub invariant-loop-place : goal.invariant-loop-place
invariant-loop-place l = l.items ++ map (λ e. e.1) l._place-iterator ≡ map (λ e. e.1) l.initial._place-iterator

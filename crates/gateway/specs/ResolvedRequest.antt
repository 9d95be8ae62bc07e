-- A request as the code holds it, and the request that it is. Source: this profile.
use Rattle.std.specs.Prelude.{◌≡◌, ◌≢◌}
use Rattle.gateway.specs.declared.resolved.ResolvedRequest.{ResolvedRequest}
use Rattle.s3_requests.specs.declared.meant.Meant.{Meant}
use Rattle.s3_requests.specs.declared.meant.Meant.TheVariants.{Memory}
use Rattle.s3_requests.specs.Proper.{IsProperMeant}
use Rattle.gateway.specs.Request.{Request}

-- what was understood is what the request means, unless memory ran out; and the request means an operation, or a proper code
pub record Understands (means : Meant) (request : Request) : Type 0 where
  pub meant : request.means ≢ Memory
  pub proper : IsProperMeant request.means
  pub same : means ≢ Memory → means ≡ request.means

-- the code holds this request; who sent it is known unless memory ran out
pub record Is (resolved : ResolvedRequest) (request : Request) : Type 0 where
  pub caller : resolved.means ≢ Memory → resolved.caller ≡ request.caller
  pub method : resolved.method.now ≡ request.method
  pub resource : resolved.resource.now ≡ request.resource
  pub understands : Understands resolved.means request
  pub end : resolved.end ≡ request.end

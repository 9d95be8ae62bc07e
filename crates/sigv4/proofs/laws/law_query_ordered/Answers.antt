use Rattle.sigv4.proofs.OrderLemmas.{stands_ordered, stands_permuted}
use Rattle.sigv4.proofs.SortLemmas.{only_order}
use Rattle.sigv4.proofs.laws.law_query_ordered.Goals as goal

pub returns : goal.returns
returns c = λ pairs. (stands_ordered pairs, stands_permuted pairs, λ other o perm. only_order pairs other o perm)

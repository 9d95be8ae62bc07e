use Rattle.std.proofs.Common.{rules, sym, ◌∙◌}
use Rattle.s3_requests.proofs.Left.{begins}
use Rattle.s3_requests.proofs.meant.meant_from_target.Goals as goal

pub meant_from_row-requires : goal.meant_from_row-requires
meant_from_row-requires c =
    let found = sym c.row_of.ensures ∙ c.in-Some.is in
    record {
      left = record {
        named = c.in_ok-named.ensures;
        is_row = found;
        so = begins _ _ _ _ _ (search rules, (search rules, (search rules, (search rules, (search rules, tt))))) found;
      };
    }

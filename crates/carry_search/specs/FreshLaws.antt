-- The first pair, in fresh memory.
use Rattle.std.specs.Prelude.{◌≡◌, List, ℕ, ◌+◌, ◌≤◌, ◌<◌, length, get_or}
use Rattle.std.proofs.Math.Path.{refl}
use Rattle.std.proofs.Common.{sym, ap, ◌∙◌, subst, zero-le, not-suc-le-zero, arith}
use Rattle.std.proofs.Math.ListN.{length-set}
use Rattle.std.proofs.Math.Seq.{get_or-set_same}
use Rattle.theory.specs.Logic.Range.{tabulate}
use Rattle.table.specs.Limits.{position_limit}
use Rattle.carry_search.specs.LastBelow.{last}
use Rattle.carry_search.specs.Chains.{pairs_in, chain_of}
use Rattle.carry_search.specs.ChainsLaws.{added_held}
use Rattle.carry_search.specs.SearchMemory.{Memory}
use Rattle.carry_search.specs.Work.{pair_room, link_room, olds_at, vertices_at, heads_at, nexts_at, sources_at, targets_at, memory_in, pair_stored, with_pair}
use Rattle.carry_search.specs.WorkLaws.{length_part, get_d_part, pair_stored_lem}
use Rattle.carry_search.specs.Search.{Fresh, one_pair, Started}

module _ (p w : ℕ) (work : List ℕ) (some : 0 < p) (few : p ≤ position_limit) (fresh : Fresh work) where
  abbrev m : Memory
  m = memory_in work one_pair

  olds_long : length m.olds ≡ pair_room
  olds_long = length_part work olds_at pair_room (omega (arith, fresh.long))

  vertices_long : length m.vertices ≡ pair_room
  vertices_long = length_part work vertices_at pair_room (omega (arith, fresh.long))

  heads_long : length m.heads ≡ position_limit
  heads_long = length_part work heads_at position_limit (omega (arith, fresh.long))

  nexts_long : length m.nexts ≡ pair_room
  nexts_long = length_part work nexts_at pair_room (omega (arith, fresh.long))

  started : Started p w (with_pair m 0 0 w)
  unfolding last pairs_in tabulate
  started = record {
    ready = record {
      few = few;
      olds = omega (arith, length-set m.olds 0 0, olds_long);
      vertices = omega (arith, length-set m.vertices 0 w, vertices_long);
      heads = omega (arith, length-set m.heads (chain_of 0 w) (0 + 1), heads_long);
      nexts = omega (arith, length-set m.nexts 0 (get_or m.heads (chain_of 0 w) 0), nexts_long);
      sources = omega (arith, length_part work sources_at link_room (omega (arith, fresh.long)));
      targets = omega (arith, length_part work targets_at link_room (omega (arith, fresh.long)));
      pairs = omega arith;
      links = omega arith;
      held =
          added_held 0 0 w m.olds m.vertices m.heads m.nexts _ _ _ _
          (record {
            chains = record {
              head = λ x h. get_d_part work heads_at position_limit x h ∙ fresh.unchained x h;
              next = λ k h. absurd (not-suc-le-zero h);
            };
            old_lt = λ k h. absurd (not-suc-le-zero h);
            single = λ i j h l. absurd (not-suc-le-zero l);
          })
          (record { old = refl; vertex = refl; head = refl; next = refl })
          (omega arith) (omega (arith, olds_long)) (omega (arith, vertices_long)) (omega (arith, heads_long)) (omega (arith, nexts_long)) zero-le;
    };
    one = refl;
    none = refl;
    old = get_or-set_same m.olds 0 0 0 (omega (arith, olds_long));
    vertex = get_or-set_same m.vertices 0 w 0 (omega (arith, vertices_long));
  }

  pub first_pair : (work' : List ℕ) → work' ≡ pair_stored work 0 0 w → Started p w (memory_in work' one_pair)
  first_pair work' e =
      subst (λ (m : Memory). Started p w m)
      (sym (ap (λ (l : List ℕ). memory_in l one_pair) e ∙ pair_stored_lem work one_pair 0 0 w (omega arith))) started

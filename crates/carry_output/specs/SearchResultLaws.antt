-- What the search leaves: the plan that it found.
use Rattle.std.specs.Prelude.{◌≡◌, List, map, length}
use Rattle.std.proofs.Math.Path.{refl}
use Rattle.std.proofs.Common.{ap, ◌∙◌, inl, inr, arith}
use Prim.Native.Nat.{ℕ, ◌<◌}
use Rattle.std.proofs.Math.Decide.{dec_lt}
use Rattle.std.proofs.Math.ListN.{get_or}
use Rattle.std.proofs.lemmas.List.{length-map}
use Rattle.theory.proofs.Logic.ListLaws.{length_tabulate, map_tabulate}
use Rattle.theory.specs.Plans.Plan.{Plan}
use Rattle.theory.specs.Carry.BreadthFirst.{Found}
use Rattle.theory.specs.Carry.Carry.{found_from, carried}
use Rattle.table.specs.Limits.{position_limit, link_limit}
use Rattle.table.specs.Table.{player_of, game_of}
use Rattle.table.specs.Answers.{Answer}
use Rattle.carry_replies.specs.Replies.{seated, needed}
use Rattle.carry_search.specs.Chains.{pairs_in}
use Rattle.carry_search.specs.PairsInLaws.{length_pairs_in}
use Rattle.carry_search.specs.SearchMemory.{Memory, found_in, Within}
use Rattle.carry_search.specs.Search.{Over, SearchResult}
use Rattle.carry_output.specs.PlanWords.{plan_words, plan_counts, size_rows}
use Rattle.carry_output.specs.CarryParts.{plan_by, carried_seated, Arrived}
use Rattle.carry_output.specs.OutputLaws.{arrived_many, many_refused, many_old}

-- the plan of what is found
abbrev plan_of_found : Found → Plan
plan_of_found s = record { vertices = map (λ x. x.1) s.pairs; links = s.links }

module _ (game : List ℕ) (player : ℕ) (plan seats : List ℕ) (y : ℕ) where
  abbrev whole : Found
  whole = found_from (player_of player) (game_of game) (game_of game) (needed game player) (seated plan seats) y

  abbrev C : Plan
  C = carried_seated game player plan seats y

  carried_found : plan_of_found whole ≡ C
  unfolding carried
  carried_found = refl

  module _ (m : Memory) (ran : SearchResult whole m) (output : List ℕ) where
    abbrev P : Plan
    P = plan_by m.vertices m.sources m.targets m.pairs m.links

    -- the words of the plan are those of the pairs and links in memory
    plan_found : P ≡ plan_of_found (found_in m)
    unfolding plan_by pairs_in
    plan_found = rw (map_tabulate (λ (x : ℕ × ℕ). x.1) m.pairs (λ k. (get_or m.olds k 0, get_or m.vertices k 0))) refl

    within : Within m.pairs m.links → P ≡ C
    within w = plan_found ∙ ap (λ (s : Found). plan_of_found s) (ran.right w) ∙ carried_found

    over : Over m.pairs m.links → Over (length C.vertices) (length C.links)
    over o = rw (← carried_found, length-map whole.pairs (λ x. x.1)) (ran.over o)

    many : Over m.pairs m.links → Over (length P.vertices) (length P.links)
    unfolding plan_by
    many o =
        rw (length_tabulate m.pairs (λ i. get_or m.vertices i 0), length_pairs_in m.sources m.targets m.links) o

    pub found_arrives : (answer : Answer) (output' : List ℕ) → Arrived (size_rows P output) (plan_counts P) (plan_words P) output answer output'
        → Arrived (size_rows C output) (plan_counts C) (plan_words C) output answer output'
    found_arrives answer output' a = go (dec_lt position_limit m.pairs) (dec_lt link_limit m.links)
      where
        passed : Over m.pairs m.links → Arrived (size_rows C output) (plan_counts C) (plan_words C) output answer output'
        passed o = rw (a.verdict ∙ many_refused P output (many o), a.output_after ∙ many_old P output (many o)) (arrived_many C output (over o))

        go : Dec (position_limit < m.pairs) → Dec (link_limit < m.links) → Arrived (size_rows C output) (plan_counts C) (plan_words C) output answer output'
        go (yes h) l = passed (inl h)
        go (no h) (yes l) = passed (inr l)
        go (no h) (no l) = rw (within (record { few_pairs = omega arith; few_links = omega arith })) at a

-- Tables of one game have games that agree, so all that goes by the game is the same (`AgreementLaws`), and the reader accepts both,
-- with the same vertices and different edges.
use Rattle.std.specs.Prelude.{◌≡◌, refl, List, [], ◌∷◌, ℕ, ◌≤◌, ◌<◌, length}
use Rattle.std.proofs.Math.Path.{ap}
use Rattle.std.proofs.Common.{◌∙◌, arith}
use Rattle.theory.proofs.Logic.BoolsLaws.{So_ext}
use Rattle.theory.specs.Games.Game.{edge_count}
use Rattle.theory.specs.Games.Agreement.{Agree}
use Rattle.theory.proofs.Games.AgreementLaws.{agree_edge_count}
use Rattle.table.specs.Limits.{edge_limit}
use Rattle.table.specs.Table.{vertex_count, table_edges, source_at, target_at, table_length, player_of, Listed, game_of}
use Rattle.table.specs.TableLaws.{edge_in, edge_out}
use Rattle.table.specs.Answers.{accepted}
use Rattle.table.specs.Reading.{read_answer}
use Rattle.table.specs.WellFormed.{WellFormed}
use Rattle.table.specs.ReadingLaws.{read_accepts}
use Rattle.table.specs.SameGame.{SameGame}

module _ {g h : List ℕ} (same : SameGame g h) where
  pub same_agree : Agree (game_of g) (game_of h)
  unfolding game_of
  same_agree = record {
    size = same.vertices;
    priority = same.priorities;
    apart = λ v w l k e. e;
    owner = λ v l. ap player_of (same.owners v l);
    edge = λ v w l k. So_ext
        (λ t. let r = (same.edges v w).0 (edge_out g v w t) in edge_in h v w r.0 r.1)
        (λ t. let r = (same.edges v w).1 (edge_out h v w t) in edge_in g v w r.0 r.1);
  }

  -- a table with edges of a well-formed one, and all of them, is well-formed if it fits
  pub same_well : WellFormed g → table_edges h ≤ edge_limit → length h ≡ table_length (vertex_count h) (table_edges h) → WellFormed h
  same_well w few size = record {
    some = omega (arith, same.vertices, w.some);
    vertices = omega (arith, same.vertices, w.vertices);
    edges = few;
    size = size;
    owners = λ v l. let k : v < vertex_count g = omega (arith, same.vertices) in omega (arith, same.owners v k, w.owners v k);
    sources = λ j l. let r = there j l in omega (arith, same.vertices, r.1.source, w.sources r.0 r.1.inside);
    targets = λ j l. let r = there j l in omega (arith, same.vertices, r.1.target, w.targets r.0 r.1.inside);
    total = λ v l.
        let (j, k, e) = w.total v (omega (arith, same.vertices)) in
        let r = (same.edges v (target_at g j)).0 (j, record { inside = k; source = e; target = refl }) in
        (r.0, r.1.inside, r.1.source);
  }
    where
      there : (j : ℕ) → j < table_edges h → (i : ℕ) × Listed g (source_at h j) (target_at h j) i
      there j l = (same.edges (source_at h j) (target_at h j)).1 (j, record { inside = l; source = refl; target = refl })

  -- the reader's counts differ in m alone
  pub same_read : WellFormed h → read_answer h ≡ accepted (vertex_count g ∷ table_edges h ∷ edge_count (game_of g) ∷ [])
  same_read w = read_accepts h w ∙ rw (same.vertices, agree_edge_count same_agree)

-- When a set of places that is closed under the grounds of one scene is closed under those of another, by its lanes, its nodes and its rows.
use Rattle.std.proofs.Common.{◌≡◌, ℕ, ◌<◌, ◌⊎◌, List, Some, None, Option, refl, subst, inl, inr, ⊎_elim}
use Rattle.words.specs.declared.node.Body.{Body}
use Rattle.words.specs.declared.node.Body.TheVariants as body
use Rattle.words.specs.declared.node.Exit.{Exit}
use Rattle.words.specs.declared.node.Exit.TheVariants.{Place}
use Rattle.words.specs.declared.node.Node.{Node}
use Rattle.structure.specs.Nodes.{node_at}
use Rattle.table.specs.Changes.{turned_body, turned}
use Rattle.reach.specs.declared.line.Letter.TheVariants as letter
use Rattle.reach.specs.Scenes.{Scene, lane_in, node_in, rows_in, Stands, BodyNext, Next, BodyBlock, Block, Ordered, BodyFlow, Flow}
use Rattle.reach.specs.Laws.{Closed}

-- ### a scene b and a scene a, as far as a set of places goes

-- where a lane of b is, one of a is, or the set has the place
abbrev pub LanesKept : Scene → Scene → (ℕ → Type 0) → Type 0
LanesKept a b S = (l p : ℕ) → p < 512 → Stands (lane_in b l).state p → Stands (lane_in a l).state p ⊎ S p

-- the nodes of b at places of the set lead where those of a do, or into the set; its blocks and its flows are blocks and flows of a
pub record NodesKept (a b : List (Option Node)) (S : ℕ → Type 0) : Type 0 where
  pub next : (m p : ℕ) → p < 512 → S m → Next (node_at b m) p → Next (node_at a m) p ⊎ S p
  pub block : (m : ℕ) → S m → Block (node_at b m) → Block (node_at a m)
  pub flow : (m n p : ℕ) → S m → Flow (node_at b m) n p → Flow (node_at a m) n p

-- the orders that wait at the blocks of b in the set wait in a, or the set has their destinations
abbrev pub RowsKept : Scene → Scene → (ℕ → Type 0) → Type 0
RowsKept a b S = (m p : ℕ) → p < 512 → S m → Block (node_in b m) → Ordered (rows_in b m) p → Ordered (rows_in a m) p ⊎ S p

module _ (a b : Scene) (S : ℕ → Type 0) where
  -- then the set is closed for b, if it is for a
  pub closed_kept : Closed a S → LanesKept a b S → NodesKept a.nodes b.nodes S → RowsKept a b S → Closed b S
  closed_kept closed lanes nodes rows letter.Lane m n p small g k =
      ⊎_elim (λ s. closed letter.Lane m n p small (s, g.1) tt) (λ s. s) (lanes m p small g.0)
  closed_kept closed lanes nodes rows letter.Next m n p small g k =
      ⊎_elim (λ s. closed letter.Next m n p small (s, g.1) k) (λ s. s) (nodes.next m p small k g.0)
  closed_kept closed lanes nodes rows letter.Queue m n p small g k =
      ⊎_elim (λ s. closed letter.Queue m n p small (nodes.block m k g.0, s, g.2) k) (λ s. s) (rows m p small k g.0 g.1)
  closed_kept closed lanes nodes rows letter.Flow m n p small g k =
      closed letter.Flow m n p small (nodes.flow m n p k.0 g.0, nodes.block n k.1 g.1) k

-- ### nodes

module _ (a b : List (Option Node)) (S : ℕ → Type 0) where
  -- each place of the set is as it was, or empty
  pub nodes_thinner : ((m : ℕ) → S m → (node_at b m ≡ None) ⊎ (node_at b m ≡ node_at a m)) → NodesKept a b S
  nodes_thinner less = record {
    next = λ m p small k h. inl (still m k (λ o. Next o p) (λ e. e) h);
    block = λ m k h. still m k Block (λ e. e) h;
    flow = λ m n p k h. still m k (λ o. Flow o n p) (λ e. e) h;
  }
    where
      still : (m : ℕ) → S m → (P : Option Node → Type 0) → (P None → ⊥) → P (node_at b m) → P (node_at a m)
      still m k P none h = ⊎_elim (λ e. absurd (none (subst P e h))) (λ e. subst P e h) (less m k)

pub nodes_same : (nodes : List (Option Node)) (S : ℕ → Type 0) → NodesKept nodes nodes S
nodes_same nodes S = nodes_thinner nodes nodes S (λ m k. inr refl)

-- ### a block that is turned

body_next_turned : (x : Body) (d : Exit) (p : ℕ) → BodyNext (turned_body x d) p → BodyNext x p ⊎ (d ≡ Place p)
body_next_turned (body.Message next offset event) d p h = inl h
body_next_turned (body.Block next period alternatives) d p h = inr h
body_next_turned (body.Flow next offset target order) d p h = inl h

body_block_turned : (x : Body) (d : Exit) → BodyBlock (turned_body x d) → BodyBlock x
body_block_turned (body.Message next offset event) d h = h
body_block_turned (body.Block next period alternatives) d h = h
body_block_turned (body.Flow next offset target order) d h = h

body_flow_turned : (x : Body) (d : Exit) (n p : ℕ) → BodyFlow (turned_body x d) n p → BodyFlow x n p
body_flow_turned (body.Message next offset event) d n p h = h
body_flow_turned (body.Block next period alternatives) d n p h = h
body_flow_turned (body.Flow next offset target order) d n p h = h

-- it leads where it led, or to the new next
pub next_turned : (node : Node) (d : Exit) (p : ℕ) → Next (Some (turned node d)) p → Next (Some node) p ⊎ (d ≡ Place p)
next_turned node d p h = body_next_turned node.body d p h

pub block_turned : (node : Node) (d : Exit) → Block (Some (turned node d)) → Block (Some node)
block_turned node d h = body_block_turned node.body d h

pub flow_turned : (node : Node) (d : Exit) (n p : ℕ) → Flow (Some (turned node d)) n p → Flow (Some node) n p
flow_turned node d n p h = body_flow_turned node.body d n p h

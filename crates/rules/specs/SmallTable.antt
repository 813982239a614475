-- 01's small table: what is asked of which numbers, and what the table says.
use Rattle.std.specs.Prelude.{List, [], ◌∷◌, ℕ}
use Rattle.rules.specs.Options.{option_map, unwrap_or}
use Rattle.rules.specs.Jobs.{Job}
use Rattle.rules.specs.Numbers.{Numbers, job_of}
use Rattle.rules.specs.Plans.{plan}
use Rattle.rules.specs.Diagrams.{Node, diagram}
use Rattle.rules.specs.Paths.{OnePath, one_paths}
use Rattle.rules.specs.Refusals.{numbers_unfit, no_correct_split}

-- what may be asked of a job: its split, or the diagram or the one-paths of its first need
pub data Question : Type 0 where
  split diagram_of_first paths_of_first : Question

pub data Answer : Type 0 where
  is_split : List ℕ → Answer
  is_diagram : ℕ → List Node → Answer
  are_paths : List OnePath → Answer
  is_refused : ℕ → Answer

unfoldable pub answer_of_job : Question → Job → Answer
answer_of_job split job = unwrap_or (option_map is_split (plan job)) (is_refused no_correct_split)
answer_of_job diagram_of_first job = is_diagram (diagram job 0).root (diagram job 0).nodes
answer_of_job paths_of_first job = are_paths (one_paths job 0)

unfoldable pub answer : Question → Numbers → Answer
answer question q = unwrap_or (option_map (answer_of_job question) (job_of q)) (is_refused numbers_unfit)

-- a row: the number of 01's case, the numbers, the question, and the answer that the table states
pub record Row : Type 0 where
  pub case : ℕ
  pub given : Numbers
  pub asked : Question
  pub stated : Answer

-- a column, a node and a path, written short. "a is 1, b 2, c 4, d 8."
abbrev node : ℕ → ℕ → ℕ → Node
node column low high = record { column = column; low = low; high = high }

abbrev path : ℕ → ℕ → OnePath
path ones zeros = record { ones = ones; zeros = zeros }

abbrev row : ℕ → ℕ → List ℕ → List ℕ → Question → Answer → Row
row case columns forbidden marks asked stated =
    record { case = case; given = record { columns = columns; forbidden = forbidden; marks = marks }; asked = asked; stated = stated }

unfoldable pub table : List Row
table =
    -- n=1, need a: root 2, node 2 = (0,0,1), one path 1/0, split 1
    row 1 1 [] (0 ∷ 18 ∷ []) diagram_of_first (is_diagram 2 (node 0 0 1 ∷ []))
    ∷ row 1 1 [] (0 ∷ 18 ∷ []) paths_of_first (are_paths (path 1 0 ∷ []))
    ∷ row 1 1 [] (0 ∷ 18 ∷ []) split (is_split (1 ∷ []))
    -- n=2, forbid 3, need a|b: nodes (1,0,1), (1,1,0), (0,2,3), root 4; paths 2/1 and 1/2; split 1
    ∷ row 2 2 (3 ∷ []) (0 ∷ 1 ∷ 17 ∷ 18 ∷ []) diagram_of_first (is_diagram 4 (node 1 0 1 ∷ node 1 1 0 ∷ node 0 2 3 ∷ []))
    ∷ row 2 2 (3 ∷ []) (0 ∷ 1 ∷ 17 ∷ 18 ∷ []) paths_of_first (are_paths (path 2 1 ∷ path 1 2 ∷ []))
    ∷ row 2 2 (3 ∷ []) (0 ∷ 1 ∷ 17 ∷ 18 ∷ []) split (is_split (1 ∷ []))
    -- n=2, need a|b: nodes (1,0,1), (0,2,1), root 3; paths 2/1 and 1/0
    ∷ row 3 2 [] (0 ∷ 1 ∷ 17 ∷ 18 ∷ []) diagram_of_first (is_diagram 3 (node 1 0 1 ∷ node 0 2 1 ∷ []))
    ∷ row 3 2 [] (0 ∷ 1 ∷ 17 ∷ 18 ∷ []) paths_of_first (are_paths (path 2 1 ∷ path 1 0 ∷ []))
    -- n=2, forbid 3, need a&b: root 0, no paths, refusal 9
    ∷ row 4 2 (3 ∷ []) (0 ∷ 1 ∷ 16 ∷ 18 ∷ []) diagram_of_first (is_diagram 0 [])
    ∷ row 4 2 (3 ∷ []) (0 ∷ 1 ∷ 16 ∷ 18 ∷ []) paths_of_first (are_paths [])
    ∷ row 4 2 (3 ∷ []) (0 ∷ 1 ∷ 16 ∷ 18 ∷ []) split (is_refused 9)
    -- n=2, forbid 3, needs a, b: split 1, 2
    ∷ row 5 2 (3 ∷ []) (0 ∷ 18 ∷ 1 ∷ 18 ∷ []) split (is_split (1 ∷ 2 ∷ []))
    -- n=1, no needs: split of no extracts
    ∷ row 6 1 [] [] split (is_split [])
    -- n=3, forbid 6, needs a&b, a&c: refusal 9, though each alone can be met
    ∷ row 7 3 (6 ∷ []) (0 ∷ 1 ∷ 16 ∷ 18 ∷ 0 ∷ 2 ∷ 16 ∷ 18 ∷ []) split (is_refused 9)
    ∷ row 7 3 (6 ∷ []) (0 ∷ 1 ∷ 16 ∷ 18 ∷ []) split (is_split (3 ∷ []))
    ∷ row 7 3 (6 ∷ []) (0 ∷ 2 ∷ 16 ∷ 18 ∷ []) split (is_split (5 ∷ []))
    -- n=3, need c|(a&b): split 4
    ∷ row 8 3 [] (2 ∷ 0 ∷ 1 ∷ 16 ∷ 17 ∷ 18 ∷ []) split (is_split (4 ∷ []))
    -- n=4, forbid 3, needs a, b|(c&d): split 13 and not 1, 2
    ∷ row 9 4 (3 ∷ []) (0 ∷ 18 ∷ 1 ∷ 2 ∷ 3 ∷ 16 ∷ 17 ∷ 18 ∷ []) split (is_split (13 ∷ []))
    -- n=3, needs a|b, c: split 5
    ∷ row 10 3 [] (0 ∷ 1 ∷ 17 ∷ 18 ∷ 2 ∷ 18 ∷ []) split (is_split (5 ∷ []))
    ∷ []

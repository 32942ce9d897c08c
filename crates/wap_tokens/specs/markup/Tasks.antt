-- Tasks (WAP-191, sections 9.3 to 9.6).
use Rattle.std.specs.Prelude.{Bool, ◌||◌, List, find, Option}
use Rattle.std.specs.List.{filter_map}
use Rattle.wap_tokens.specs.declared.markup.deck.Node.{Node}
use Rattle.wap_tokens.specs.declared.markup.name.Tag.{Tag}
use Rattle.wap_tokens.specs.declared.markup.name.Tag.TheVariants as tags
use Rattle.wap_tokens.specs.markup.Tables.{is_same_tag}
use Rattle.wap_tokens.specs.markup.Trees.{node_of, node_with}

-- a go, a prev or a refresh
abbrev pub is_task : Tag → Bool
is_task tag = is_same_tag tag tags.Go || (is_same_tag tag tags.Prev || is_same_tag tag tags.Refresh)

-- the first task in a node
abbrev pub task_of : Node → Option Node
task_of node = find (λ task. is_task task.tag) (filter_map node_of node.kids)

-- the setvars of a task
abbrev pub setvars_of : Node → List Node
setvars_of task = filter_map (node_with tags.Setvar) task.kids

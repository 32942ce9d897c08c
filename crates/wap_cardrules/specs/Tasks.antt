-- Tasks (WAP-191, sections 9.3 to 9.5 and 9.7 to 9.9), filled from the variables of the moment.
use Rattle.std.specs.Prelude.{ℕ, false, if◌then◌else◌, map, List, [], Option, Some, None, codes}
use Rattle.std.specs.List.{filter_map}
use Rattle.std.specs.Option.{option_and_then}
use Rattle.wap_base.specs.Texts.{is_same_text}
use Rattle.wap_tokens.specs.declared.markup.deck.Node.{Node}
use Rattle.wap_tokens.specs.declared.markup.name.Tag.TheVariants as tags
use Rattle.wap_tokens.specs.declared.markup.name.AttrName.TheVariants as attrs
use Rattle.wap_tokens.specs.markup.Tables.{is_same_tag}
use Rattle.wap_tokens.specs.markup.Trees.{value_of, node_with, plain_value, is_text}
use Rattle.wap_tokens.specs.markup.Tasks.{setvars_of, task_of}
use Rattle.wap_vars.specs.Variables.{Variables}
use Rattle.wap_vars.specs.Filling.{value_text}
use Rattle.wap_cardrules.specs.declared.task.Task.{Task}
use Rattle.wap_cardrules.specs.declared.task.Task.TheVariants.{Go, Prev, Refresh}
use Rattle.wap_cardrules.specs.declared.task.Go.{Go as GoTask}
use Rattle.wap_cardrules.specs.Values.{is_true, Pairs}

-- a name and its value, of a setvar or a postfield
abbrev pub pair_in : Variables → Node → List ℕ × List ℕ
pair_in vars node =
    (value_text vars (value_of attrs.Name node), value_text vars (value_of attrs.Value node))

-- what a task sets, by its setvars
abbrev pub sets_in : Variables → Node → Pairs
sets_in vars node = map (pair_in vars) (setvars_of node)

-- what a go sends, by its postfields
abbrev pub posts_in : Variables → Node → Pairs
posts_in vars node = map (pair_in vars) (filter_map (node_with tags.Postfield) node.kids)

-- a go, filled
abbrev pub go_in : Variables → Node → GoTask
go_in vars node = record {
  href = value_text vars (value_of attrs.Href node);
  post = is_text (codes "post") (plain_value attrs.Method node);
  referer = is_true attrs.Sendreferer node;
  fresh = is_same_text (codes "no-cache") (value_text vars (value_of attrs.CacheControl node));
  posts = posts_in vars node;
  sets = sets_in vars node;
}

-- a go to a URL and nothing more, as by a link and by the attribute of an event
abbrev pub go_to : List ℕ → Task
go_to href = Go (record {
  href = href;
  post = false;
  referer = false;
  fresh = false;
  posts = [];
  sets = [];
})

-- the task that an element is; a noop is none
abbrev pub task_from : Variables → Node → Option Task
task_from vars node =
    if is_same_tag node.tag tags.Go then Some (Go (go_in vars node))
    else if is_same_tag node.tag tags.Prev then Some (Prev (sets_in vars node))
    else if is_same_tag node.tag tags.Refresh then Some (Refresh (sets_in vars node))
    else None

-- the task in a do, an anchor or an onevent
abbrev pub task_in : Variables → Node → Option Task
task_in vars node = option_and_then (task_from vars) (task_of node)

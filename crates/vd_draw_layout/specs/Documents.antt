-- Whole drawings.
use Rattle.std.specs.Prelude.{ℕ, List, ◌++◌, codes}
use Rattle.std.specs.List.{flat_map}
use Rattle.vd_draw_layout.specs.declared.draw_svg.marks.Mark.{Mark}
use Rattle.vd_draw_layout.specs.Tags.{attribute, mark_text}
use Rattle.vd_draw_layout.specs.Words.{number_text}

-- how classes look, and the drawings of shapes and of the heads of arrows
unfoldable pub look_text : List ℕ
look_text = codes "<style>\ntext{font-family:\"DejaVu Sans Mono\",Menlo,Consolas,monospace;font-size:11.5px}\n.bold{font-weight:bold}\n.small{font-size:9.5px}\n.source{font-style:italic;fill:#555}\n.heading{font-size:16px;font-weight:bold}\n.host{font-weight:bold;text-anchor:middle}\n.pair{font-size:9.5px;text-anchor:middle}\n.halo{font-size:9.5px;text-anchor:middle;stroke:#fff;stroke-width:7px;stroke-linejoin:round}\n.name{font-size:9.5px;text-anchor:middle}\nline{fill:none;stroke:#000}\n.host-lane{stroke-width:2px}\n.pair-lane{stroke:#999;stroke-dasharray:2 4}\n.otherwise{stroke:#555;stroke-dasharray:5 3}\n.clear{stroke:#820900;stroke-width:2px;marker-start:url(#from);marker-end:url(#full-clear)}\n.checked{stroke:#820900;stroke-width:2px;marker-start:url(#from);marker-end:url(#full-checked)}\n.opened{stroke:#bb8101;stroke-width:5px;marker-start:url(#from);marker-end:url(#full-opened)}\n.middle{stroke:#fff;stroke-width:2px}\n.revealed{stroke:#bb8101;stroke-width:4px;stroke-dasharray:1 3;marker-start:url(#from);marker-end:url(#full-opened)}\n.shared{stroke:#008cff;stroke-width:2px;stroke-dasharray:7 4;marker-start:url(#from);marker-end:url(#open-shared)}\n.committed{stroke:#071426;stroke-width:2px;stroke-dasharray:2 3;marker-start:url(#from);marker-end:url(#box-committed)}\n.converted{stroke:#660387;stroke-width:2px;stroke-dasharray:9 3 2 3;marker-start:url(#from);marker-end:url(#open-converted)}\n.stays{stroke:#777777;marker-start:url(#from);marker-end:url(#to)}\nrect{fill:none;stroke:#000}\n.page{fill:#fff;stroke:none}\n.host-name{fill:#fff}\n.branch{stroke:#555;stroke-dasharray:5 3}\n.loop{stroke:#555}\n.cost{fill:#bbb}\n.dear{fill:#000}\n</style>\n<defs>\n<marker id=\"from\" refX=\"0\" refY=\"0\" markerUnits=\"userSpaceOnUse\" markerWidth=\"8\" markerHeight=\"8\" overflow=\"visible\"><circle r=\"2\"/></marker>\n<marker id=\"to\" refX=\"0\" refY=\"0\" markerUnits=\"userSpaceOnUse\" markerWidth=\"8\" markerHeight=\"8\" orient=\"auto\" overflow=\"visible\"><path d=\"M0 0H9\" stroke=\"#777777\"/><circle cx=\"9\" r=\"2\" fill=\"#777777\"/></marker>\n<marker id=\"full-clear\" refX=\"0\" refY=\"0\" markerUnits=\"userSpaceOnUse\" markerWidth=\"8\" markerHeight=\"8\" orient=\"auto\" overflow=\"visible\"><path d=\"M0 -5L9 0L0 5z\" fill=\"#820900\"/></marker>\n<marker id=\"full-checked\" refX=\"0\" refY=\"0\" markerUnits=\"userSpaceOnUse\" markerWidth=\"8\" markerHeight=\"8\" orient=\"auto\" overflow=\"visible\"><path d=\"M-8 -4v8M-4 -4v8\" stroke=\"#820900\"/><path d=\"M0 -5L9 0L0 5z\" fill=\"#820900\"/></marker>\n<marker id=\"full-opened\" refX=\"0\" refY=\"0\" markerUnits=\"userSpaceOnUse\" markerWidth=\"8\" markerHeight=\"8\" orient=\"auto\" overflow=\"visible\"><path d=\"M0 -5L9 0L0 5z\" fill=\"#bb8101\"/></marker>\n<marker id=\"open-shared\" refX=\"0\" refY=\"0\" markerUnits=\"userSpaceOnUse\" markerWidth=\"8\" markerHeight=\"8\" orient=\"auto\" overflow=\"visible\"><path d=\"M0 -5L9 0L0 5z\" fill=\"#fff\" stroke=\"#008cff\"/></marker>\n<marker id=\"open-converted\" refX=\"0\" refY=\"0\" markerUnits=\"userSpaceOnUse\" markerWidth=\"8\" markerHeight=\"8\" orient=\"auto\" overflow=\"visible\"><path d=\"M0 -5L9 0L0 5z\" fill=\"#fff\" stroke=\"#660387\"/></marker>\n<marker id=\"box-committed\" refX=\"0\" refY=\"0\" markerUnits=\"userSpaceOnUse\" markerWidth=\"8\" markerHeight=\"8\" orient=\"auto\" overflow=\"visible\"><path d=\"M0 -4H8V4H0z\" fill=\"#fff\" stroke=\"#071426\" stroke-width=\"2\"/></marker>\n<g id=\"at-host\"><circle r=\"5\"/></g>\n<g id=\"at-copy\"><circle r=\"5\" fill=\"#fff\" stroke=\"#000\" stroke-width=\"2\"/><circle r=\"2\"/></g>\n<g id=\"at-sums\"><path d=\"M-8 0L0 -8L8 0L0 8z\" fill=\"#fff\" stroke=\"#000\"/><path d=\"M-4 0H4M0 -4V4\" stroke=\"#000\"/></g>\n<g id=\"at-bits\"><path d=\"M-8 0L0 -8L8 0L0 8z\" fill=\"#fff\" stroke=\"#000\"/><path d=\"M-3 -3L3 3M-3 3L3 -3\" stroke=\"#000\"/></g>\n<g id=\"at-committed\"><path d=\"M-6 -6H6V6H-6z\" fill=\"#fff\" stroke=\"#000\"/><path d=\"M-3 -3H3V3H-3z\"/></g>\n<g id=\"at-variable\"><path d=\"M-5 -5H5V5H-5z\" fill=\"#fff\" stroke=\"#000\" stroke-width=\"2\"/></g>\n<g id=\"at-printed\"><path d=\"M-6 -6H6L0 6z\" fill=\"#fff\" stroke=\"#000\" stroke-width=\"2\"/></g>\n</defs>\n"

-- what shapes mean
unfoldable pub legend_text : List ℕ
legend_text = codes "<text class=\"plain\" x=\"112\" y=\"0\">not drawn: the masked words that operations on sums and bits exchange</text>\n<use xlink:href=\"#at-host\" x=\"30\" y=\"22\"/><text class=\"plain\" x=\"44\" y=\"26\">one host has the word</text>\n<use xlink:href=\"#at-copy\" x=\"213\" y=\"22\"/><text class=\"plain\" x=\"227\" y=\"26\">copies</text>\n<use xlink:href=\"#at-sums\" x=\"291\" y=\"22\"/><text class=\"plain\" x=\"305\" y=\"26\">sums</text>\n<use xlink:href=\"#at-bits\" x=\"355\" y=\"22\"/><text class=\"plain\" x=\"369\" y=\"26\">bits</text>\n<use xlink:href=\"#at-committed\" x=\"419\" y=\"22\"/><text class=\"plain\" x=\"433\" y=\"26\">committed</text>\n<use xlink:href=\"#at-variable\" x=\"518\" y=\"22\"/><text class=\"plain\" x=\"532\" y=\"26\">variable or array</text>\n<use xlink:href=\"#at-printed\" x=\"673\" y=\"22\"/><text class=\"plain\" x=\"687\" y=\"26\">printed</text>\n"

-- how a drawing begins
unfoldable pub begin_text : List ℕ
begin_text = codes "<svg xmlns=\"http://www.w3.org/2000/svg\" xmlns:xlink=\"http://www.w3.org/1999/xlink\" version=\"1.1\""

unfoldable pub pair_text : ℕ → ℕ → List ℕ
pair_text width height = number_text width ++ codes " " ++ number_text height

-- what is shown of a drawing begins at its corner
unfoldable pub corner_text : List ℕ
corner_text = codes " viewBox=\"0 0 "

-- all of it is shown, so it can be scaled
abbrev pub view_text : ℕ → ℕ → List ℕ
view_text width height = corner_text ++ pair_text width height ++ codes "\""

abbrev pub head_text : ℕ → ℕ → List ℕ
head_text width height = begin_text ++ attribute (codes " width") width ++ attribute (codes " height") height ++ view_text width height ++ codes ">\n" ++ look_text

-- the legend stands in the group that the last of the marks begins
abbrev pub document_text : ℕ → ℕ → List Mark → List ℕ
document_text width height marks = head_text width height ++ flat_map mark_text marks ++ legend_text ++ codes "</g>\n</svg>\n"
